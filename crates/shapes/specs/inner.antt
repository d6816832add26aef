pub mod ShapeRooms
