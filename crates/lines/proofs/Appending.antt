-- Text after text in a buffer. Assumes nothing.
use Prim.Native.Nat.{ℕ, ◌+◌}
use mathlib.Core.Path.{◌≡◌, refl, sym, ap, ◌∙◌, subst}
use mathlib.Core.List.{List, [], ◌++◌, append_assoc, append-nil}
use native.Mathlib.Omega.{arith}
use lib.ListN.{length, take, length-append}
use Rattle.lines.specs.declared.Text.{Text}
use Rattle.lines.specs.inner.Writing.{Wrote, Put}

pub wrote_none : (b : List ℕ) (at : ℕ) → Wrote b at [] b at
wrote_none b at = record { long = refl; next = omega arith; written = sym (append-nil (take at b)) }

pub wrote-both : {b m a : List ℕ} {at p e : ℕ} {s t : List ℕ} → Wrote b at s m p → Wrote m p t a e → Wrote b at (s ++ t) a e
wrote-both {b} {m} {a} {at} {p} {e} {s} {t} u v =
    record {
      long = v.long ∙ u.long;
      next = v.next ∙ (ap (λ (n : ℕ). n + length t) u.next ∙ (let l = length-append s t in omega arith));
      written = v.written ∙ (ap (λ (l : List ℕ). l ++ t) u.written ∙ append_assoc (take at b) s t);
    }

pub wrote-same : {b a : List ℕ} {at e : ℕ} {s t : List ℕ} → s ≡ t → Wrote b at s a e → Wrote b at t a e
wrote-same {b} {a} {at} {e} q w = subst (λ (l : List ℕ). Wrote b at l a e) q w

-- ---- a text

pub put_none : (t : Text) → Put t [] t
put_none t = record { same = refl; wrote = wrote_none t.out.now t.end }

pub put-both : {t u v : Text} {a b : List ℕ} → Put t a u → Put u b v → Put t (a ++ b) v
put-both p q = record { same = q.same ∙ p.same; wrote = wrote-both p.wrote q.wrote }

pub put-same : {t u : Text} {a b : List ℕ} → a ≡ b → Put t a u → Put t b u
put-same e p = record { same = p.same; wrote = wrote-same e p.wrote }

-- what a new text has been given stands at its buffer's beginning
pub put_from : {t u : Text} {s : List ℕ} (out : List ℕ) → t.out.now ≡ out → t.end ≡ 0 → Put t s u → Wrote out 0 s u.out.now u.end
put_from {t} {u} {s} out e z p =
    record {
      long = p.wrote.long ∙ ap length e;
      next = p.wrote.next ∙ ap (λ (n : ℕ). n + length s) z;
      written = p.wrote.written ∙ (ap (λ (n : ℕ). take n t.out.now ++ s) z ∙ ap (λ (l : List ℕ). take 0 l ++ s) e);
    }
