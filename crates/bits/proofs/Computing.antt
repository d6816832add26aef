-- What a computed claim opens, of the definitions in specs/. Assumes nothing.
use Rattle.numbers.proofs.Computing.{numbers_compute}
use Rattle.bits.specs.Bits.{field_at}
use Rattle.bits.specs.Reading.{after, bits}
use Rattle.bits.specs.Fields.{judge_count, in_set, judge_points, count, point_count, judge_double, judge_number, number, point}

unfoldable pub fields_compute : Unit {0}
unfolding numbers_compute field_at after bits judge_count in_set judge_points count point_count judge_double judge_number number point
fields_compute = tt
