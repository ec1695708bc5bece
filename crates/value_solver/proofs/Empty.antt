-- The join of nothing.
use Rattle.std.proofs.Common.{◌≡◌, ℕ, zero, suc, ◌+◌, ◌<◌, List, [], ◌∷◌, ◌++◌, length, Bool, true, false, refl, inl, arith, length-append}
use Rattle.std.specs.Prelude.{slice_index, slice_index_or, nat_eq}
use Rattle.dataflow.proofs.Pushed.{at_push}
use Rattle.value_solver.specs.Numbering.{class_in, IsNumbered}
use Rattle.value_solver.specs.Joining.{IsJoin}
use Rattle.value_solver.proofs.Numbers.{numbered_push}

pub record IsEmptyJoin (n : ℕ) (cs : List ℕ) (gs : List Bool) : Type 0 where
  pub classes : length cs ≡ n
  pub bits : length gs ≡ n
  pub zero_all : (i : ℕ) → slice_index cs i ≡ 0
  pub set_all : (i : ℕ) → i < n → slice_index_or gs i false ≡ true
  pub numbered : IsNumbered 1 cs 1

pub empty_none : IsEmptyJoin 0 [] []
empty_none = record { classes = refl; bits = refl; zero_all = λ i. refl; set_all = λ i h. absurd (omega arith); numbered = refl }

pub empty_next : (n : ℕ) (cs : List ℕ) (gs : List Bool) → IsEmptyJoin n cs gs → IsEmptyJoin (n + 1) (cs ++ 0 ∷ []) (gs ++ true ∷ [])
empty_next n cs gs s = record {
  classes = simp length-append (omega (arith, s.classes));
  bits = simp length-append (omega (arith, s.bits));
  zero_all = λ i. at_push cs 0 0 i (λ z. z ≡ 0) (λ h. s.zero_all i) (λ h. refl) (λ h. refl);
  set_all = λ i h. at_push gs true false i (λ z. z ≡ true) (λ less. s.set_all i (omega (arith, s.bits))) (λ e. refl) (λ far. absurd (omega (arith, s.bits)));
  numbered = numbered_push 1 1 cs 0 1 s.numbered (inl (omega arith, refl));
}

class_zero : (n : ℕ) (cs : List ℕ) (gs : List Bool) → IsEmptyJoin n cs gs → (x : ℕ) → class_in cs x ≡ 0
class_zero n cs gs s zero = refl
class_zero n cs gs s (suc i) = s.zero_all i

pub empty_joined : (n : ℕ) (cs : List ℕ) (gs : List Bool) → IsEmptyJoin n cs gs → IsJoin n [] (record { reached = false; classes = cs; given = gs })
empty_joined n cs gs s = record {
  classes = s.classes;
  bits = s.bits;
  reached = refl;
  one = λ x y. (λ z. nat_eq (class_zero n cs gs s x z) (class_zero n cs gs s y z));
  bit = λ i h. s.set_all i h;
  numbered = (1, s.numbered);
}
