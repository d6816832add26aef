-- `judge_text::judge_text`: the list is read, then the job judged. Assumes nothing.
use native.Mathlib.Omega.{arith}
use mathlib.Core.Path.{sym}
use lib.Seq.{length-take-le}
use Rattle.judge_text.proofs.Printing.{answer_short, answer_overlong, answer_malformed, answer_many, answer_lines}
use Rattle.judge_text.proofs.Printing.{lines_few, job-inside, numbers_fit, numbers_are, job_is}
use Rattle.judge_text.proofs.judge_text.Goals as goal

pub returns-then-out-lt64 : goal.returns-then-out-lt64
returns-then-out-lt64 c = answer_short c.args.bytes.now c.args.out.now c.if-out-lt64.true

pub no_line-requires : goal.no_line-requires
no_line-requires c = c.if-out-lt64.false

pub shape_of-out-then-bytes-gt589824 : goal.shape_of-out-then-bytes-gt589824
shape_of-out-then-bytes-gt589824 c = c.no_line.auto.out

pub returns-then-bytes-gt589824 : goal.returns-then-bytes-gt589824
returns-then-bytes-gt589824 c = answer_overlong c.args.bytes.now c.args.out.now _ c.if-out-lt64.false
    c.if-bytes-gt589824.true c.no_line.ensures

pub slice_bounds-job_line-count : goal.slice_bounds-job_line-count
slice_bounds-job_line-count c = let r = c.read in
    let i = job-inside c.args.bytes.now c.args.out.now c.number_room-numbers.result r.new.numbers r.result c.number_room-numbers.ensures
    r.ensures
    c.in-Ok.n c.in-Ok.at c.in-Ok.is in
    omega (arith, i)

pub slice_bounds-job_line-start : goal.slice_bounds-job_line-start
slice_bounds-job_line-start c = let r = c.read in
    let i = job-inside c.args.bytes.now c.args.out.now c.number_room-numbers.result r.new.numbers r.result c.number_room-numbers.ensures
    r.ensures
    c.in-Ok.n c.in-Ok.at c.in-Ok.is in
    omega (arith, i)

pub overflow_mul-numbers : goal.overflow_mul-numbers
overflow_mul-numbers c = let r = c.read in
    let i = lines_few c.args.bytes.now c.args.out.now c.number_room-numbers.result r.new.numbers r.result c.number_room-numbers.ensures
    r.ensures
    c.in-Ok.n c.in-Ok.at c.in-Ok.is in
    omega (arith, i)

pub slice_bounds-numbers-end : goal.slice_bounds-numbers-end
slice_bounds-numbers-end c = let r = c.read in
    let i = lines_few c.args.bytes.now c.args.out.now c.number_room-numbers.result r.new.numbers r.result c.number_room-numbers.ensures
    r.ensures
    c.in-Ok.n c.in-Ok.at c.in-Ok.is in
    omega (arith, i)

pub slice_bounds-job_line-end-in-Ok : goal.slice_bounds-job_line-end-in-Ok
slice_bounds-job_line-end-in-Ok c = let r = c.read in
    sym (length-take-le _ r.new.numbers
    (numbers_fit c.args.bytes.now c.args.out.now c.number_room-numbers.result r.new.numbers r.result c.number_room-numbers.ensures r.ensures
    c.in-Ok.n c.in-Ok.at c.in-Ok.is r.auto.numbers))

pub job_line-requires : goal.job_line-requires
job_line-requires c = c.if-out-lt64.false

pub no_line-requires-in-Err-Malformed : goal.no_line-requires-in-Err-Malformed
no_line-requires-in-Err-Malformed c = c.if-out-lt64.false

pub no_line-requires-in-Err-TooMany : goal.no_line-requires-in-Err-TooMany
no_line-requires-in-Err-TooMany c = c.if-out-lt64.false

pub shape_of-out-in-Ok : goal.shape_of-out-in-Ok
shape_of-out-in-Ok c = c.job_line.auto.out

pub returns-in-Ok : goal.returns-in-Ok
returns-in-Ok c = let a = c.args in
    let r = c.read in
    answer_lines a.bytes.now a.out.now c.number_room-numbers.result r.new.numbers r.result c.number_room-numbers.ensures r.ensures _
    c.if-out-lt64.false c.if-bytes-gt589824.false
    c.in-Ok.n c.in-Ok.at _ _ c.in-Ok.is (job_is a.bytes.now c.in-Ok.at)
    (numbers_are a.bytes.now a.out.now c.number_room-numbers.result r.new.numbers r.result c.number_room-numbers.ensures r.ensures
    c.in-Ok.n c.in-Ok.at c.in-Ok.is)
    c.job_line.ensures

pub shape_of-out-in-Err-Malformed : goal.shape_of-out-in-Err-Malformed
shape_of-out-in-Err-Malformed c = c.no_line-in-Err-Malformed.auto.out

pub returns-in-Err-Malformed : goal.returns-in-Err-Malformed
returns-in-Err-Malformed c = let a = c.args in
    let r = c.read in
    answer_malformed a.bytes.now a.out.now c.number_room-numbers.result r.new.numbers r.result c.number_room-numbers.ensures r.ensures _
    c.if-out-lt64.false
    c.if-bytes-gt589824.false c.in-Err-Malformed.n (rw c.in-Err-Malformed.field-0-is at c.in-Err-Malformed.is) (rw c.in-Err-Malformed.n-is at c.no_line-in-Err-Malformed.ensures)

pub shape_of-out-in-Err-TooMany : goal.shape_of-out-in-Err-TooMany
shape_of-out-in-Err-TooMany c = c.no_line-in-Err-TooMany.auto.out

pub returns-in-Err-TooMany : goal.returns-in-Err-TooMany
returns-in-Err-TooMany c = let a = c.args in
    let r = c.read in
    answer_many a.bytes.now a.out.now c.number_room-numbers.result r.new.numbers r.result c.number_room-numbers.ensures r.ensures _ c.if-out-lt64.false
    c.if-bytes-gt589824.false
    (rw c.in-Err-TooMany.field-0-is at c.in-Err-TooMany.is) c.no_line-in-Err-TooMany.ensures
