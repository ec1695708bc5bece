-- What a block hands on: the entry's classes and bits, changed one after the other.
use Rattle.std.proofs.Common.{◌≡◌, ℕ, zero, suc, ◌<◌, ◌≤◌, List, [], ◌∷◌, ◌++◌, length, Bool, true, false, cond, refl, sym, ap, ◌∙◌, arith, eqb, ltb-true}
use Rattle.std.proofs.Common.{ltb-false}
use Rattle.std.specs.Prelude.{slice_index, slice_index_or, slice_set, nat_eq, nat_lt}
use Rattle.std.proofs.lemmas.List.{get_or_past, get_or-set_same, get_or-set_other}
use Rattle.std.proofs.Math.ListN.{length-set}
use Rattle.std.proofs.lemmas.Bool.{eqb-true, eqb-false, ne_eqb}
use Rattle.value_solver.specs.declared.entry.BlockEntry.{BlockEntry}
use Rattle.value_solver.specs.declared.flow.Source.{Source}
use Rattle.value_solver.specs.declared.flow.Source.TheVariants.{Was}
use Rattle.value_solver.specs.declared.flow.Change.{Change}
use Rattle.value_solver.specs.Numbering.{class_in}
use Rattle.value_solver.specs.Joining.{source_from, class_past, bit_past, hand_class, SourceWithin, AreWithin, IsPast}

pub record ArePast (cs : List ℕ) (gs : List Bool) (changes : List Change) (classes : List ℕ) (given : List Bool) : Type 0 where
  pub long : length classes ≡ length cs
  pub bits : length given ≡ length gs
  pub class : (i : ℕ) → i < length cs → slice_index classes i ≡ class_past (length cs) cs (source_from (Was i) changes i)
  pub bit : (i : ℕ) → i < length gs → slice_index_or given i false ≡ bit_past gs (source_from (Was i) changes i)

-- one more change
pub source_push : (s : Source) (cs : List Change) (c : Change) (i : ℕ) →
    source_from s (cs ++ c ∷ []) i ≡ cond (nat_eq c.thing i) c.source (source_from s cs i)
source_push s [] c i = refl
source_push s (d ∷ cs) c i = source_push (cond (nat_eq d.thing i) d.source s) cs c i

pub within_at : (n : ℕ) (cs : List Change) (k : ℕ) (d : Change) → AreWithin n cs → k < length cs →
    ((slice_index_or cs k d).thing < n) × SourceWithin n (slice_index_or cs k d).source
within_at n [] k d h less = absurd (omega arith)
within_at n (c ∷ cs) zero d (a, b, h) less = (a, b)
within_at n (c ∷ cs) (suc k) d (a, b, h) less = within_at n cs k d h (omega arith)

pub past_none : (cs : List ℕ) (gs : List Bool) → ArePast cs gs [] cs gs
past_none cs gs = record { long = refl; bits = refl; class = λ i h. refl; bit = λ i h. refl }

set_is : {A : Type 0} (xs : List A) (t : ℕ) (v d : A) (i : ℕ) → t < length xs →
    slice_index_or (slice_set xs t v) i d ≡ cond (nat_eq t i) v (slice_index_or xs i d)
set_is xs t v d i less = by_case (eqb t i) refl where
  by_case : (z : Bool) → eqb t i ≡ z → slice_index_or (slice_set xs t v) i d ≡ cond z v (slice_index_or xs i d)
  by_case true e = ap (λ (k : ℕ). slice_index_or (slice_set xs t v) k d) (sym (eqb-true t i e)) ∙ get_or-set_same xs t v d less
  by_case false e = get_or-set_other xs t i v d (λ same. eqb-false t i e (sym same))

cond_ap : {A B : Type 0} (f : A → B) (z : Bool) (a b : A) → cond z (f a) (f b) ≡ f (cond z a b)
cond_ap f true a b = refl
cond_ap f false a b = refl

pub past_next : (cs : List ℕ) (gs : List Bool) (changes : List Change) (classes : List ℕ) (given : List Bool) (c : Change) → length gs ≡ length cs →
    c.thing < length cs →
    ArePast cs gs changes classes given →
    ArePast cs gs (changes ++ c ∷ []) (slice_set classes c.thing (class_past (length cs) cs c.source)) (slice_set given c.thing (bit_past gs c.source))
past_next cs gs changes classes given c long less p = record {
  long = length-set classes c.thing _ ∙ p.long;
  bits = length-set given c.thing _ ∙ p.bits;
  class = λ i h. set_is classes c.thing _ 0 i (omega (arith, p.long))
      ∙ ap (λ (z : ℕ). cond (nat_eq c.thing i) (class_past (length cs) cs c.source) z) (p.class i h)
      ∙ cond_ap (class_past (length cs) cs) (nat_eq c.thing i) c.source (source_from (Was i) changes i)
      ∙ ap (class_past (length cs) cs) (sym (source_push (Was i) changes c i));
  bit = λ i h. set_is given c.thing _ false i (omega (arith, p.bits))
      ∙ ap (λ (z : Bool). cond (nat_eq c.thing i) (bit_past gs c.source) z) (p.bit i h)
      ∙ cond_ap (bit_past gs) (nat_eq c.thing i) c.source (source_from (Was i) changes i)
      ∙ ap (bit_past gs) (sym (source_push (Was i) changes c i));
}

-- what is beyond all things isn't changed
pub beyond : (n : ℕ) (s : Source) (cs : List Change) (i : ℕ) → AreWithin n cs → n ≤ i → source_from s cs i ≡ s
beyond n s [] i h far = refl
beyond n s (c ∷ cs) i (a, b, h) far =
    beyond n (cond (nat_eq c.thing i) c.source s) cs i h far ∙ ap (λ (z : Bool). cond z c.source s) (ne_eqb c.thing i (λ e. absurd (omega arith)))

pub past_all : (e : BlockEntry) (changes : List Change) (classes : List ℕ) (given : List Bool) → length e.given ≡ length e.classes →
    AreWithin (length e.classes) changes →
    ArePast e.classes e.given changes classes given → IsPast (record { entry = e; changes = changes }) classes given
past_all e changes classes given long within p = record {
  long = p.long;
  bits = p.bits ∙ long;
  class = class;
  bit = λ i. bit i (nat_lt i (length e.given)) refl;
} where
  class_by : (i : ℕ) (z : Bool) → nat_lt i (length e.classes) ≡ z →
      slice_index classes i ≡ class_past (length e.classes) e.classes (source_from (Was i) changes i)
  class_by i true h = p.class i (ltb-true i (length e.classes) h)
  class_by i false h =
      let far = ltb-false i (length e.classes) h in
      get_or_past classes i 0 (omega (arith, p.long)) ∙ sym (get_or_past e.classes i 0 far)
      ∙ ap (class_past (length e.classes) e.classes) (sym (beyond (length e.classes) (Was i) changes i within far))

  class : (x : ℕ) → class_in classes x ≡ hand_class (record { entry = e; changes = changes }) x
  class zero = refl
  class (suc i) = class_by i (nat_lt i (length e.classes)) refl

  bit : (i : ℕ) (z : Bool) → nat_lt i (length e.given) ≡ z → slice_index_or given i false ≡ bit_past e.given (source_from (Was i) changes i)
  bit i true h = p.bit i (ltb-true i (length e.given) h)
  bit i false h =
      let far = ltb-false i (length e.given) h in
      get_or_past given i false (omega (arith, p.bits)) ∙ sym (get_or_past e.given i false far)
      ∙ ap (bit_past e.given) (sym (beyond (length e.classes) (Was i) changes i within (omega (arith, long))))
