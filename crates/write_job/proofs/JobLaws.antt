-- Laws of a whole job, put and finished. Assumes nothing.
use Rattle.std.specs.Prelude.{Result, Ok, Err}
use mathlib.Core.Path.{◌≡◌, refl, sym, ap, ap₂, subst, ◌∙◌}
use Prim.Native.Nat.{ℕ, ◌*◌, ◌≤◌, ◌<◌}
use native.Mathlib.Omega.{arith}
use mathlib.Core.Bool.{Bool, true, false, cond}
use mathlib.Core.List.{List, [], flat_map}
use lib.ListN.{length, replicate}
use lib.Dec.{leb, lit≤}
use borrow.Author.Tests.{le-leb, lt-leb}
use lib.Ieee.{Float, lt}
use Rattle.numbers.proofs.Truth.{zero-not-one}
use Rattle.numbers.specs.Numbers.{◌⊘◌, from_int}
use Rattle.bits.specs.declared.Refusal.{Refusal}
use Rattle.bits.specs.declared.Refusal.TheVariants.{TooManyCopies, TooManyColumns}
use Rattle.kinds.specs.sets.Sets.{Set}
use Rattle.kinds.specs.Kinds.{Kind, copies_of}
use Rattle.frames.specs.declared.Frame.{Frame}
use Rattle.frames.specs.Frames.{framed}
use Rattle.job.specs.declared.Header.{Header}
use Rattle.job.specs.Jobs.{Job, Answer, accepted, refused, frame_of, width_of, framed_width}
use Rattle.bit_writer.specs.declared.BitWriter.{BitWriter}
use Rattle.bit_writer.specs.Packed.{packed, in_room}
use Rattle.bit_writer.specs.inner.BitWriting as writing
use Rattle.bit_writer.specs.inner.BitWriting.{Sound, Wrote}
use Rattle.bit_writer.proofs.Writing.{put_then}
use Rattle.set_writer.specs.declared.Walk.{Walk}
use Rattle.set_writer.specs.inner.Walks.{Walks, Near, Ready}
use Rattle.set_writer.proofs.Walking.{Went, so, went_on, stopped_at, near_at, ready-next}
use Rattle.job_bits.specs.JobBits.{header_bits, set_bits, kind_bits, job_bits, bytes_of}
use Rattle.job_bits.specs.Given.{Taken, ok, bad, after, given_set, given_kinds, given_header, given_fields, sized, judged, given_job}
use Rattle.job_bits.proofs.Takers.{bad-first, ok_then}
use Rattle.job_bits.proofs.Headers.{TakenHeader, header_was}
use Rattle.kind_writer.specs.inner.WalksKinds.{WalksKinds}
use Rattle.kind_writer.proofs.KindLaws.{WentKinds, so_kinds, kinds-went, kinds-stopped}
use Rattle.job_bits.specs.declared.JobError.{JobError}
use Rattle.job_bits.specs.declared.JobError.TheVariants.{Refused, ShortRoom}
use Rattle.job_bits.specs.Replies.{or_zeros}
use Rattle.job_bits.proofs.Doubles.{ok-value, err-value}
use Rattle.write_job.specs.Written.{placed, written}
use Rattle.write_job.specs.inner.PutJob.{value_of, Fielded, PutJob, went_job, stopped_job}
use Rattle.write_job.proofs.HeaderLaws.{Puts, number_value}

-- ---- the fields, one after the other
module _ (g : Header) (rows : List ℕ) (areas : List Float) (cs : List ℕ) (xs : List Float) where
  -- what follows the sheet, and what follows the header
  abbrev whole : Header → Set → List Kind → Job
  whole h s ks = record { header = h; sheet = s; kinds = ks; copies = copies_of ks }

  abbrev after_sheet : Header → Set → ℕ → ℕ → Taken Job
  after_sheet h s c x = after (given_kinds rows areas h.kinds 0 cs xs c x) (λ ks c x. ok (whole h s ks) c x)

  abbrev after_header : Header → ℕ → ℕ → Taken Job
  after_header h c x = after (given_set cs xs c x) (λ s c x. after_sheet h s c x)

  fields_are : given_fields g rows areas cs xs 0 0 ≡ after (given_header g cs xs 0 0) (λ h c x. after_header h c x)
  unfolding given_fields
  fields_are = refl

  abbrev PutFields : List ℕ → Result (BitWriter × ℕ) Refusal → List ℕ → Type 0
  PutFields out r o = PutJob (given_fields g rows areas cs xs 0 0) g cs xs out r o

  -- kinds of the header that was given are those of the header that was taken
  kinds-given : (h : Header) (c x : ℕ) {t : Taken (List Kind)} → TakenHeader g h → given_kinds rows areas g.kinds 0 cs xs c x ≡ t
      → given_kinds rows areas h.kinds 0 cs xs c x ≡ t
  kinds-given h c x T e = ap (λ (n : ℕ). given_kinds rows areas n 0 cs xs c x) T.front.number ∙ e

  module _ (p : BitWriter) (out o₁ o₂ o₃ : List ℕ) (W : Wrote out [] p) where
    abbrev start : Walk
    start = record { counts = 0; coordinates = 0; writer = p }

    abbrev Header-put : Result Walk Refusal → Type 0
    Header-put r = Puts (given_header g) header_bits start out r o₁ 154

    abbrev Sheet-put : Walk → Result Walk Refusal → Type 0
    Sheet-put u r = Walks (given_set cs xs u.counts u.coordinates) set_bits u o₁ r o₂ × Near u r 65 65536 4194951

    abbrev Kinds-put : Walk → Result (Walk × ℕ) Refusal → Type 0
    Kinds-put v r = WalksKinds (given_kinds rows areas g.kinds 0 cs xs v.counts v.coordinates) (flat_map kind_bits) v o₂ r o₃

    abbrev Header-went : Walk → Type 0
    Header-went u = Went (given_header g cs xs 0 0) header_bits start out u o₁

    abbrev Sheet-went : Walk → Walk → Type 0
    Sheet-went u v = Went (given_set cs xs u.counts u.coordinates) set_bits u o₁ v o₂

    pub fields_bad-header : (r : Result Walk Refusal) (k : Refusal) → Header-put r → r ≡ Err k → PutFields out (Err k) o₁
    fields_bad-header r k F e =
        let s = stopped_at k (F.0 cs xs) e in
        stopped_job (fields_are ∙ bad-first (given_header g cs xs 0 0) (λ h c x. after_header h c x) k s.0) s.1

    pub fields_bad-sheet : (u : Walk) (r r' : Result Walk Refusal) (k : Refusal) → Header-put r → r ≡ Ok u → Sheet-put u r' → r' ≡ Err k → PutFields out (Err k) o₂
    fields_bad-sheet u r r' k F e G f = go (went_on u (F.0 cs xs) e) (stopped_at k G.0 f)
      where
        go : Header-went u → (given_set cs xs u.counts u.coordinates ≡ bad k) × (length o₂ ≡ length o₁) → PutFields out (Err k) o₂
        go (so h i q) s =
            stopped_job
            (fields_are
            ∙ ok_then (given_header g cs xs 0 0) (λ h c x. after_header h c x) h _ _ i
            ∙ bad-first (given_set cs xs u.counts u.coordinates) (λ s c x. after_sheet h s c x) k s.0)
            (s.1 ∙ q.long)

    pub fields_bad-kinds : (u v : Walk) (r r' : Result Walk Refusal) (r'' : Result (Walk × ℕ) Refusal) (k : Refusal) → Header-put r → r ≡ Ok u → Sheet-put u r' → r' ≡ Ok v
        → Kinds-put v r'' → r'' ≡ Err k → PutFields out (Err k) o₃
    fields_bad-kinds u v r r' r'' k F e G f H i = go (went_on u (F.0 cs xs) e) (went_on v G.0 f) (kinds-stopped k H i)
      where
        go : Header-went u → Sheet-went u v → (given_kinds rows areas g.kinds 0 cs xs v.counts v.coordinates ≡ bad k) × (length o₃ ≡ length o₂)
            → PutFields out (Err k) o₃
        go (so h j q) (so s l m) z =
            stopped_job
            (fields_are
            ∙ ok_then (given_header g cs xs 0 0) (λ h c x. after_header h c x) h _ _ j
            ∙ ok_then (given_set cs xs u.counts u.coordinates) (λ s c x. after_sheet h s c x) s _ _ l
            ∙ bad-first (given_kinds rows areas h.kinds 0 cs xs v.counts v.coordinates) (λ ks c x. ok (whole h s ks) c x) k
            (kinds-given h _ _ (header_was g h cs xs _ _ _ _ j) z.0))
            (z.1 ∙ m.long ∙ q.long)

    pub fields_put : (u v z : Walk) (copies : ℕ) (r r' : Result Walk Refusal) (r'' : Result (Walk × ℕ) Refusal) → Header-put r → r ≡ Ok u → Sheet-put u r' → r' ≡ Ok v
        → Kinds-put v r'' → r'' ≡ Ok (z, copies) → PutFields out (Ok (z.writer, copies)) o₃
    unfolding job_bits
    fields_put u v z copies r r' r'' F e G f H i = go (went_on u (F.0 cs xs) e) (went_on v G.0 f) (kinds-went z copies H i)
      where
        first : u.counts ≡ 0
        first = omega (arith, (near_at start (Ok u) 0 0 154 F.1 e).0)

        second : u.coordinates ≡ 0
        second = omega (arith, (near_at start (Ok u) 0 0 154 F.1 e).1)

        go : Header-went u → Sheet-went u v → WentKinds (given_kinds rows areas g.kinds 0 cs xs v.counts v.coordinates) v o₂ z copies o₃
            → PutFields out (Ok (z.writer, copies)) o₃
        go (so h j q) (so s l m) (so_kinds ks a b d) =
            let T = header_was g h cs xs _ _ _ _ j in
            let puts = put_then _ _ _ _ _ _ _ _ q (put_then _ _ _ _ _ _ _ _ m b) in
            went_job (whole h s ks) z.counts z.coordinates
            (fields_are
            ∙ ok_then (given_header g cs xs 0 0) (λ h c x. after_header h c x) h _ _ j
            ∙ ok_then (given_set cs xs u.counts u.coordinates) (λ s c x. after_sheet h s c x) s _ _ l
            ∙ ok_then (given_kinds rows areas h.kinds 0 cs xs v.counts v.coordinates) (λ ks c x. ok (whole h s ks) c x) ks _ _ (kinds-given h _ _ T a))
            (record {
              wrote = puts.wrote [] W;
              sound = puts.sound;
              long = puts.long;
              number = d;
              sheet = (_, _, ap₂ (given_set cs xs) (sym first) (sym second) ∙ l);
              frame = ap frame_of (sym T.front.same);
              resolution = number_value _ _ _ _ T.front.resolution;
            })

-- ---- the reply
module _ (g : Header) (rows : List ℕ) (areas : List Float) (cs : List ℕ) (xs : List Float) (out : List ℕ) where
  -- a reply, and what is left in the room with it, where refusals leave zeros
  abbrev Replied : Result ℕ JobError → List ℕ → Type 0
  Replied r o = record { reply = r; out = or_zeros 0 r o } ≡ written (given_job g rows areas cs xs) (length out)

  -- a refusal, and zeros
  pub said_refused : (k : Refusal) (o : List ℕ) → given_job g rows areas cs xs ≡ refused k → length o ≡ length out → Replied (Err (Refused k)) o
  unfolding written
  said_refused k o e h =
      ap (λ (n : ℕ). record { reply = Err (Refused k); out = replicate n 0 }) h ∙ ap (λ (a : Answer). written a (length out)) (sym e)

  abbrev Put-job : Result (BitWriter × ℕ) Refusal → List ℕ → Type 0
  Put-job r o = PutJob (given_fields g rows areas cs xs 0 0) g cs xs out r o

  pub job-refused : (k : Refusal) {r : (Result (BitWriter × ℕ) Refusal)} {o : List ℕ} → Put-job r o → r ≡ Err k → (given_job g rows areas cs xs ≡ refused k) × (length o ≡ length out)
  unfolding given_job judged
  job-refused k (went_job j c x e F) h = absurd (zero-not-one (cc))
  job-refused k (stopped_job {k = i} e l) h = (ap judged (e ∙ ap bad (err-value h)), l)

  -- what the fields say
  pub record Put_fields (p : BitWriter) (copies : ℕ) (o : List ℕ) : Type 0 where
    pub job : Job
    pub is : given_job g rows areas cs xs ≡ sized job
    pub fields : Fielded g cs xs out p copies o job

  pub job-put : (p : BitWriter) (copies : ℕ) {r : (Result (BitWriter × ℕ) Refusal)} {o : List ℕ} → Put-job r o → r ≡ Ok (p, copies) → Put_fields p copies o
  unfolding given_job judged
  job-put p copies {r} {o} (went_job {p = q} {copies = m} j c x e F) h =
      subst (λ (a : BitWriter). Put_fields a copies o) (first (ok-value h)) (subst (λ (b : ℕ). Put_fields q b o) (second (ok-value h))
      (record { job = j; is = ap judged e; fields = F }))
    where
      first : {a b : BitWriter} {m n : ℕ} → ◌≡◌ {A = BitWriter × ℕ} (a, m) (b, n) → a ≡ b
      first e = ap (λ (p : BitWriter × ℕ). p.0) e

      second : {a b : BitWriter} {m n : ℕ} → ◌≡◌ {A = BitWriter × ℕ} (a, m) (b, n) → m ≡ n
      second e = ap (λ (p : BitWriter × ℕ). p.1) e
  job-put p copies (stopped_job e l) h = absurd (zero-not-one (cc))

  module _ (p : BitWriter) (copies : ℕ) (o : List ℕ) (F : Put_fields p copies o) where
    few : copies ≤ 4096 → F.job.copies ≤ 4096
    few h = subst (λ (n : ℕ). n ≤ 4096) F.fields.number h

    pub too_many_copies : 4096 < copies → given_job g rows areas cs xs ≡ refused TooManyCopies
    unfolding sized
    too_many_copies h = F.is ∙ rw (lt-leb F.job.copies 4096 (subst (λ (n : ℕ). 4096 < n) F.fields.number h))

    -- the width that is measured, over the resolution
    module _ (f : Frame) (w r : Float) (a : f ≡ frame_of g)
        (M : (s : Set) (c x : ℕ) → given_set cs xs 0 0 ≡ ok s c x → w ≡ width_of (framed f s)) (v : r ≡ value_of g.resolution) where
      quotient : w ⊘ r ≡ framed_width F.job ⊘ F.job.header.resolution
      unfolding framed_width
      quotient =
          ap₂ (λ (x y : Float). x ⊘ y)
          (M F.job.sheet _ _ F.fields.sheet.2 ∙ ap (λ (f : Frame). width_of (framed f F.job.sheet)) (a ∙ sym F.fields.frame))
          (v ∙ sym F.fields.resolution)

      pub too_many_columns : copies ≤ 4096 → lt (from_int 1_000_000) (w ⊘ r) ≡ true → given_job g rows areas cs xs ≡ refused TooManyColumns
      unfolding sized
      too_many_columns h t = F.is ∙ rw (le-leb F.job.copies 4096 (few h), ap (lt (from_int 1_000_000)) (sym quotient) ∙ t)

      pub is_accepted : copies ≤ 4096 → lt (from_int 1_000_000) (w ⊘ r) ≡ false → given_job g rows areas cs xs ≡ accepted F.job
      unfolding sized
      is_accepted h t = F.is ∙ rw (le-leb F.job.copies 4096 (few h), ap (lt (from_int 1_000_000)) (sym quotient) ∙ t)

    abbrev bytes : List ℕ
    bytes = packed (job_bits F.job)

    abbrev Finished_as : ℕ → List ℕ → Type 0
    Finished_as n o' = (n ≡ length bytes) × (n ≤ length o → o' ≡ in_room 0 bytes (length o)) × (length o' ≡ length o)

    placed_as : (b : Bool) → given_job g rows areas cs xs ≡ accepted F.job → leb (length bytes) (length out) ≡ b
        → written (given_job g rows areas cs xs) (length out)
        ≡ cond b (record { reply = Ok (length bytes); out = in_room 0 bytes (length out) }) (record { reply = Err ShortRoom; out = replicate (length out) 0 })
    unfolding written placed bytes_of
    placed_as b e f =
        ap (λ (a : Answer). written a (length out)) e
        ∙ ap (λ (b : Bool). cond b (record { reply = Ok (length bytes); out = in_room 0 bytes (length out) })
        (record { reply = Err ShortRoom; out = replicate (length out) 0 })) f

    -- the bytes fit, or they do not
    pub said_written : (n : ℕ) (o' : List ℕ) → given_job g rows areas cs xs ≡ accepted F.job → Finished_as n o' → n ≤ length o' → Replied (Ok n) o'
    said_written n o' e E h =
        let l : length o' ≡ length out = E.2 ∙ F.fields.long in
        let k : length bytes ≤ length out = omega (arith, E.0) in
        let s : n ≤ length o = omega (arith, E.2) in
        (λ i. record { reply = Ok (E.0 i); out = (E.1 s ∙ ap (in_room 0 bytes) F.fields.long) i }) ∙ sym (placed_as true e (le-leb _ _ k))

    pub said_short : (n : ℕ) (o' : List ℕ) → given_job g rows areas cs xs ≡ accepted F.job → Finished_as n o' → length o' < n → Replied (Err ShortRoom) o'
    said_short n o' e E h =
        let l : length o' ≡ length out = E.2 ∙ F.fields.long in
        let k : length out < length bytes = omega (arith, E.0) in
        ap (λ (m : ℕ). record { reply = Err ShortRoom; out = replicate m 0 }) l ∙ sym (placed_as false e (lt-leb _ _ k))

-- ---- room for a whole job
pub start-ready : (p : BitWriter) → Sound p → writing.written p ≡ 0 → Ready (record { counts = 0; coordinates = 0; writer = p }) 200000 200000000 10000000000
start-ready p S e = record { sound = S; counts = lit≤ tt; coordinates = lit≤ tt; bits = omega (arith, e) }

-- after the header
pub header-ready : (g : Header) (u : Walk) {p : BitWriter} {out o : List ℕ} → Sound p → writing.written p ≡ 0
    → Puts (given_header g) header_bits (record { counts = 0; coordinates = 0; writer = p }) out (Ok u) o 154 → Ready u 200000 200000000 9999999846
header-ready g u S e F =
    ready-next u 200000 200000000 10000000000 0 0 154 (start-ready _ S e) (F.0 [] []) F.1 refl 200000 200000000 9999999846 (omega arith) (omega arith) (omega arith)

pub header-few : (g : Header) (cs : List ℕ) (xs : List Float) {w u : Walk} {out o : List ℕ} {r : (Result Walk Refusal)}
    → Walks (given_header g cs xs w.counts w.coordinates) header_bits w out r o → r ≡ Ok u → g.kinds ≤ 64
header-few g cs xs {w} {u} {out} {o} F e = go (went_on u F e)
  where
    go : Went (given_header g cs xs w.counts w.coordinates) header_bits w out u o → g.kinds ≤ 64
    go (so h i q) = let T = (header_was g h cs xs _ _ _ _ i).front in subst (λ (n : ℕ). n ≤ 64) T.number T.few

pub kinds-room : (v : Walk) (n : ℕ) → Ready v 133120 134217728 8591266944 → n ≤ 64 → Ready v (2080 * n) (2097152 * n) (134238546 * n)
kinds-room v n R h =
    record { sound = R.sound; counts = omega (arith, R.counts); coordinates = omega (arith, R.coordinates); bits = omega (arith, R.bits) }
