-- One turn of each loop over registers.
use Rattle.std.proofs.Common.{◌≡◌, ◌≢◌, ℕ, zero, suc, ◌+◌, ◌-◌, ◌%◌, ◌^◌, ◌<◌, ◌≤◌, List, [], ◌∷◌, length, Option, Some, None, Bool, true, false}
use Rattle.std.proofs.Common.{cond, refl, sym, ap, ◌∙◌, inl, inr, drop, get_or, arith, get_or-set_other, get_or-set_same, length-set}
use Rattle.std.proofs.Math.Seq.{drop-cons}
use Rattle.std.proofs.lemmas.Bool.{cases_eq, eq-eqb, ne_eqb, ltb-true, and_parts}
use Rattle.std.specs.Prelude.{nat_lt, slice_index_or, slice_set, ◌||◌}
use Rattle.std.specs.List.{list_all, slice_get}
use Rattle.std.specs.Option.{option_map}
use Rattle.std.proofs.lemmas.Option.{slice_get-map, slice_get-get_or}
use Rattle.mir_func.specs.declared.block.Block.{Block}
use Rattle.mir_func.specs.Sound.{AreApart, ids_of}
use Rattle.mir_func.specs.Graph.{from_block}
use Rattle.sem_mir.specs.State.{content, put, put_all, in_frame, touches_frame}
use Rattle.sem_interpreter.specs.Places.{AreRegisters, RegistersHold}

-- ---- the frame
pub touches_later : (e z a k n : ℕ) → k < n → in_frame e z ((a + k) % 2 ^ 64) ≡ false →
    touches_frame e z (a + (k + 1)) (n - (k + 1)) ≡ touches_frame e z (a + k) (n - k)
touches_later e z a k n lt h =
    let one : n - k ≡ suc (n - (k + 1)) = omega arith in
    let next : a + (k + 1) ≡ a + k + 1 = omega arith in
    ap (λ (x : ℕ). touches_frame e z x (n - (k + 1))) next
    ∙ sym (ap (touches_frame e z (a + k)) one ∙ ap (λ (b : Bool). b || touches_frame e z (a + k + 1) (n - (k + 1))) h)

-- ---- registers
pub set_keeps : (xs : List (Option ℕ)) (k v : ℕ) → AreRegisters xs → 0 < k → AreRegisters (slice_set xs k (Some v))
set_keeps xs k v are lt =
    let ne : zero ≢ k = λ e. omega (arith, e, lt) in
    record { long = length-set xs k (Some v) ∙ are.long; zero = get_or-set_other xs k 0 (Some v) None ne ∙ are.zero }

pub put_holds : (xs : List (Option ℕ)) (f : ℕ → Option ℕ) (r v : ℕ) → 0 < r → r < length xs → RegistersHold xs f →
    RegistersHold (slice_set xs r (Some v)) (put r v f)
put_holds xs f zero v pos lt h q = absurd (omega arith)
put_holds xs f (suc r) v pos lt h zero =
    let ne : zero ≢ suc r = λ e. omega (arith, e) in rw get_or-set_other (h zero)
put_holds xs f (suc r) v pos lt h (suc q) =
    elim (cases_eq (suc q) (suc r)) as (λ z. content (put (suc r) v f) (suc q) ≡ slice_index_or (slice_set xs (suc r) (Some v)) (suc q) None) [
      | inl e ↦ rw (eq-eqb (suc q) (suc r) e, e, get_or-set_same) refl
      | inr ne ↦ rw (ne_eqb (suc q) (suc r) ne, get_or-set_other) (h (suc q))
    ]

pub each_between : (xs : List ℕ) (n : ℕ) → list_all (λ x. nat_lt 0 x) xs ≡ true → list_all (λ x. nat_lt x n) xs ≡ true → (i : ℕ) → i < length xs →
    (0 < get_or xs i 0) × (get_or xs i 0 < n)
each_between [] n h k i lt = absurd (omega arith)
each_between (x ∷ xs) n h k zero lt =
    let a = and_parts (nat_lt 0 x) (list_all (λ y. nat_lt 0 y) xs) h in
    let b = and_parts (nat_lt x n) (list_all (λ y. nat_lt y n) xs) k in
    (ltb-true 0 x a.0, ltb-true x n b.0)
each_between (x ∷ xs) n h k (suc i) lt =
    let a = and_parts (nat_lt 0 x) (list_all (λ y. nat_lt 0 y) xs) h in
    let b = and_parts (nat_lt x n) (list_all (λ y. nat_lt y n) xs) k in
    each_between xs n a.1 b.1 i (omega arith)

put_all_more : (r : ℕ) (rs vs : List ℕ) (i : ℕ) (f : ℕ → Option ℕ) → put_all (r ∷ rs) (drop i vs) f ≡ put_all rs (drop (suc i) vs) (put r (get_or vs i 0) f)
put_all_more r rs [] zero f = refl
put_all_more r rs [] (suc i) f = refl
put_all_more r rs (v ∷ vs) zero f = refl
put_all_more r rs (v ∷ vs) (suc i) f = put_all_more r rs vs i f

pub put_all_turn : (rs vs : List ℕ) (i : ℕ) (f t : ℕ → Option ℕ) → i < length rs → put_all (drop i rs) (drop i vs) f ≡ t →
    put_all (drop (i + 1) rs) (drop (i + 1) vs) (put (get_or rs i 0) (get_or vs i 0) f) ≡ t
put_all_turn rs vs i f t lt h =
    let next : i + 1 ≡ suc i = omega arith in
    ap (λ (n : ℕ). put_all (drop n rs) (drop n vs) (put (get_or rs i 0) (get_or vs i 0) f)) next
    ∙ sym (put_all_more (get_or rs i 0) (drop (suc i) rs) vs i f) ∙ sym (ap (λ (xs : List ℕ). put_all xs (drop i vs) f) (drop-cons rs i 0 lt)) ∙ h

-- ---- blocks
pub from_first : (bs : List Block) (i n : ℕ) → slice_get (ids_of bs) i ≡ Some n → ((j : ℕ) → slice_get (ids_of bs) j ≡ Some n → i ≤ j) →
    from_block bs n ≡ drop i bs
from_first [] i n h first = (let no : ◌≡◌ {A = Option ℕ} None (Some n) = h in cc)
from_first (b ∷ bs) zero n h first =
    let some : Some b.id ≡ Some n = h in
    let same : b.id ≡ n = cc in
    ap (λ (t : Bool). cond t (b ∷ bs) (from_block bs n)) (eq-eqb b.id n same)
from_first (b ∷ bs) (suc i) n h first =
    let other : b.id ≡ n → ⊥ = λ e. (let le : suc i ≤ zero = first zero (ap (λ (x : ℕ). Some x) e) in omega (arith, le)) in
    let later : (j : ℕ) → slice_get (ids_of bs) j ≡ Some n → i ≤ j = λ j k. (let le : suc i ≤ suc j = first (suc j) k in omega (arith, le)) in
    ap (λ (t : Bool). cond t (b ∷ bs) (from_block bs n)) (ne_eqb b.id n other) ∙ from_first bs i n h later

pub from_apart : (bs : List Block) (i n : ℕ) (d : Block) → AreApart (ids_of bs) → i < length bs → (get_or bs i d).id ≡ n → from_block bs n ≡ drop i bs
from_apart bs i n d apart lt e =
    let here : slice_get (ids_of bs) i ≡ Some n = slice_get-map (λ b. b.id) bs i ∙ ap (option_map (λ b. b.id)) (slice_get-get_or bs i d lt)
    ∙ ap (λ (x : ℕ). Some x) e in
    from_first bs i n here (λ j k. (let same = apart i j n here k in omega (arith, same)))
