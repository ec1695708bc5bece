-- Raising undoes what the words make of slots and objects: each is found again by how far it lies above x2.
--
-- Slots and saved registers lie below the frame's own size, objects from there on. An access stays in its object. Where no other object has its
-- first byte, the last object that has it is the one that the access names.
use Rattle.std.proofs.Common.{◌≡◌, ℕ, zero, suc, ◌+◌, ◌<◌, Bool, true, false, cond, ◌&&◌, nat_eq, nat_le, nat_lt, List, [], ◌∷◌, length, get_or}
use Rattle.std.proofs.Common.{Option, Some, None, refl, ap, sym, ◌∙◌, subst, arith}
use Rattle.std.specs.Prelude.{map, Contains, IsTrue}
use Rattle.std.proofs.lemmas.Bool.{eqb-true, le-leb, lt-ltb}
use Rattle.mir_func.specs.declared.object.Object.{Object}
use Rattle.mir_func.specs.Objects.{object_of, offset_of, offset_or_zero}
use Rattle.listing_meaning.specs.Frame.{ShownObject, last_of, begins_by, has_byte, object_at}
use Rattle.listing_meaning.specs.Settled.{object_placed, IsAlone}

-- ---- the last object that passes a test

module _ (test : ShownObject → Bool) (o : Object) where
  -- of these objects none but this one passes
  abbrev PassesAlone : List Object → Type 0
  PassesAlone os = (p : Object) → Contains os p → IsTrue (test (object_placed p)) → p ≡ o

  alone_tail : (x : Object) (os : List Object) → PassesAlone (x ∷ os) → PassesAlone os
  alone_tail x os alone p (k, lt, e) passes = alone p (suc k, omega (arith, lt), e) passes

  alone_head : (x : Object) (os : List Object) → PassesAlone (x ∷ os) → IsTrue (test (object_placed x)) → x ≡ o
  alone_head x os alone passes = alone x (zero, omega arith, refl) passes

  last_kept : (os : List Object) → PassesAlone os → last_of test (Some (object_placed o)) (map object_placed os) ≡ Some (object_placed o)
  last_kept [] alone = refl
  last_kept (x ∷ os) alone = by (test (object_placed x)) refl (last_kept os (alone_tail x os alone)) where
    Kept : Bool → Type 0
    Kept b = last_of test (cond b (Some (object_placed x)) (Some (object_placed o))) (map object_placed os) ≡ Some (object_placed o)

    by : (b : Bool) → test (object_placed x) ≡ b → Kept false → Kept b
    by true passes rest = ap (λ (y : Object). last_of test (Some (object_placed y)) (map object_placed os)) (alone_head x os alone passes) ∙ rest
    by false other rest = rest

  last_is : (found : Option ShownObject) (os : List Object) → PassesAlone os → IsTrue (test (object_placed o)) → (k : ℕ) → k < length os →
      get_or os k o ≡ o → last_of test found (map object_placed os) ≡ Some (object_placed o)
  last_is found [] alone passes k lt e = absurd (omega (arith, lt))
  last_is found (x ∷ os) alone passes zero lt e =
      ap (λ (y : Object). last_of test (cond (test (object_placed y)) (Some (object_placed y)) found) (map object_placed os)) e
      ∙ ap (λ (b : Bool). last_of test (cond b (Some (object_placed o)) found) (map object_placed os)) passes
      ∙ last_kept os (alone_tail x os alone)
  last_is found (x ∷ os) alone passes (suc k) lt e =
      last_is (cond (test (object_placed x)) (Some (object_placed x)) found) os (alone_tail x os alone) passes k (omega (arith, lt)) e

-- ---- the object of a number

found_by : (t : Bool) (x o : Object) (objects : List Object) (n : ℕ) → nat_eq x.id n ≡ t →
    (object_of objects n ≡ Some o → (k : ℕ) × (k < length objects) × (get_or objects k o ≡ o)) → object_of (x ∷ objects) n ≡ Some o →
    (k : ℕ) × (k < suc (length objects)) × (get_or (x ∷ objects) k o ≡ o)
found_by true x o objects n is more e =
    let here : Some x ≡ Some o = ap (λ (z : Bool). cond z (Some x) (object_of objects n)) (sym is) ∙ e in
    let same : x ≡ o = cc in
    (0, omega arith, same)
found_by false x o objects n is more e =
    let below = more (ap (λ (z : Bool). cond z (Some x) (object_of objects n)) (sym is) ∙ e) in
    (suc below.0, omega (arith, below.1), below.2)

found_index : (objects : List Object) (n : ℕ) (o : Object) → object_of objects n ≡ Some o → (k : ℕ) × (k < length objects) × (get_or objects k o ≡ o)
found_index [] n o e = absurd cc
found_index (x ∷ objects) n o e = found_by (nat_eq x.id n) x o objects n refl (found_index objects n o) e

same_found : (r : Option Object) (o p : Object) → r ≡ Some o → r ≡ Some p → p ≡ o
same_found r o p e f = let both : Some p ≡ Some o = sym f ∙ e in cc

has_it : (o : Object) (m : ℕ) → m < o.size → IsTrue (has_byte (o.offset + m) (object_placed o))
has_it o m low =
    let from : nat_le o.offset (o.offset + m) ≡ true = le-leb o.offset (o.offset + m) (omega arith) in
    let within : nat_lt (o.offset + m) (o.offset + o.size) ≡ true = lt-ltb (o.offset + m) (o.offset + o.size) (omega (arith, low)) in
    ap (λ (b : Bool). b && nat_lt (o.offset + m) (o.offset + o.size)) from ∙ within

-- the object of a number is the last one that has its byte, where no other has it
pub found_at : (os : List Object) (n m : ℕ) (o : Object) → object_of os n ≡ Some o → m < o.size → IsAlone os n m →
    object_at (map object_placed os) (o.offset + m) ≡ Some (object_placed o)
found_at os n m o e low alone =
    let at : offset_of os n ≡ o.offset = ap offset_or_zero e in
    let here = found_index os n o e in
    last_is (has_byte (o.offset + m)) o (last_of (begins_by (o.offset + m)) None (map object_placed os)) os
    (λ p there passes. same_found (object_of os n) o p e
    (alone p there (subst (λ (x : ℕ). IsTrue (has_byte (x + m) (object_placed p))) (sym at) passes)))
    (has_it o m low) here.0 here.1 here.2

id_by : (p : Bool) (x o : Object) (n : ℕ) (rest : Option Object) → nat_eq x.id n ≡ p → (rest ≡ Some o → o.id ≡ n) → cond p (Some x) rest ≡ Some o → o.id ≡ n
id_by true x o n rest is more e = let same : x ≡ o = cc in ap (λ (y : Object). y.id) (sym same) ∙ eqb-true x.id n is
id_by false x o n rest is more e = more e

-- it has this number
pub id_found : (os : List Object) (n : ℕ) (o : Object) → object_of os n ≡ Some o → o.id ≡ n
id_found [] n o e = absurd cc
id_found (x ∷ os) n o e = id_by (nat_eq x.id n) x o n (object_of os n) refl (id_found os n o) e
