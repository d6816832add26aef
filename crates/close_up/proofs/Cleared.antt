-- Strips closed up, and zeros behind them. Assumes nothing.
use mathlib.Core.Path.{◌≡◌, sym, ap, ap₂, ◌∙◌}
use mathlib.Core.List.{List, [], ◌++◌, append-nil}
use Prim.Native.Nat.{ℕ, zero, suc, ◌+◌, ◌-◌, ◌*◌, ◌≤◌}
use native.Mathlib.Omega.{arith}
use lib.ListN.{length, take, drop, replicate, length-drop, drop_of_length-le}
use lib.Seq.{length-take-le, take-take}
use lib.Ieee.{Float}
use borrow.Rule.Slice.PartMut.{put_mid, mid_of, post_of}
use Rattle.numbers.specs.Numbers.{pos_zero}
use Rattle.filling.specs.Rooms.{laid, zeros}
use Rattle.filling.specs.Withdraw.{strips_left}

drop-replicate : {A : Type 0} (n m : ℕ) (a : A) → drop n (replicate m a) ≡ replicate (m - n) a
drop-replicate zero m a = let z : m ≡ m - 0 = omega arith in ap (λ (k : ℕ). replicate k a) z
drop-replicate (suc n) zero a = let z : 0 ≡ 0 - suc n = omega arith in ap (λ (k : ℕ). replicate k a) z
drop-replicate (suc n) (suc m) a = let z : m - n ≡ suc m - suc n = omega arith in drop-replicate n m a ∙ ap (λ (k : ℕ). replicate k a) z

-- l₁ is the room after the move, z what stands from e, its new end, on
pub cleared : (l₀ l₁ z : List Float) (a k n e : ℕ) → a + k ≤ n → 6 * n ≤ length l₀ → e ≡ 6 * n - 6 * k → length l₁ ≡ length l₀
    → take (6 * n - 6 * k) l₁ ≡ take (6 * a) l₀ ++ drop (6 * a + 6 * k) (take (6 * n) l₀)
    → z ≡ zeros pos_zero (mid_of e (length l₁ - e) l₁)
    → put_mid e (length l₁ - e) l₁ z ≡ laid (strips_left a k (take (6 * n) l₀)) (zeros pos_zero l₀)
unfolding laid zeros strips_left
cleared l₀ l₁ z a k n e h b here long moved zs =
    let y : 6 * (a + k) ≡ 6 * a + 6 * k = omega arith in
    let front : take e l₁ ≡ take (6 * a) (take (6 * n) l₀) ++ drop (6 * (a + k)) (take (6 * n) l₀) =
    ap (λ (q : ℕ). take q l₁) here ∙ moved ∙ ap₂ ◌++◌ (sym (take-take (6 * a) (6 * n) l₀ (omega arith))) (ap (λ (q : ℕ). drop q (take (6 * n) l₀)) (sym y)) in
    let len : length (take (6 * a) (take (6 * n) l₀) ++ drop (6 * (a + k)) (take (6 * n) l₀)) ≡ e =
    sym (ap length front) ∙ length-take-le e l₁ (omega arith) in
    let mid : length (mid_of e (length l₁ - e) l₁) ≡ length l₀ - e = mids e in
    let post : post_of e (length l₁ - e) l₁ ≡ [] = posts e (omega arith) in
    ap₂ ◌++◌ front
    (ap₂ ◌++◌ (zs ∙ ap (λ (q : ℕ). replicate q pos_zero) mid) post ∙ append-nil (replicate (length l₀ - e) pos_zero)
    ∙ sym (ap (λ (q : ℕ). drop q (replicate (length l₀) pos_zero)) len ∙ drop-replicate e (length l₀) pos_zero))
  where
    mids : (e : ℕ) → length (mid_of e (length l₁ - e) l₁) ≡ length l₀ - e
    mids e = let x = length-drop e l₁ in length-take-le (length l₁ - e) (drop e l₁) (omega arith) ∙ ap (λ (q : ℕ). q - e) long

    posts : (e : ℕ) → e ≤ length l₁ → post_of e (length l₁ - e) l₁ ≡ []
    posts e f = drop_of_length-le (drop e l₁) {i = length l₁ - e} (let x = length-drop e l₁ in omega arith)
