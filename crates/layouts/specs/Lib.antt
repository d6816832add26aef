pub mod Layouts
pub mod Legal
pub mod PlanLayout
