-- The table of instances while the calls on a way get theirs, from the last one to the first.
-- Plan: at each step the way up to a call is left, and the calls from there on have instances, the first of them with the index that is kept. The call gets the
-- next index, and stands in that one.
use Rattle.std.proofs.Common.{◌≡◌, ℕ, zero, suc, ◌-◌, ◌<◌, ◌≤◌, Bool, true, false, cond, List, [], ◌∷◌, ◌++◌, length, reverse, Option, Some, None}
use Rattle.std.proofs.Common.{refl, sym, ◌∙◌, ap, subst, arith}
use Rattle.std.proofs.Common.{◌||◌, append_assoc, append-nil, slice_get, nat_cmp, nat_eq, eq-eqb, eqb-true, true≢false, IfSome, if◌then◌else◌, inl}
use Rattle.std.proofs.Common.{inr, length-append}
use Rattle.std.proofs.Common.{option_map}
use Rattle.std.proofs.lemmas.Option.{slice_get-map}
use Rattle.std.specs.List.{list_any}
use Rattle.std.specs.BTreeMap.{Updates}
use Rattle.std.proofs.lemmas.Grind.{reverse_onto}
use Rattle.read_metadata.specs.Maps.{Maps}
use Rattle.dwarf_line_table.specs.Files.{first_uses, with_new}
use Rattle.dwarf_line_table.proofs.FirstUses.{uses_append}
use Rattle.inline_instances.specs.declared.instance.Instance.{Instance}
use Rattle.inline_instances.specs.declared.table.InstanceTable.{InstanceTable}
use Rattle.inline_instances.specs.Calls.{IsWay, AreCallsFrom, outer_call}
use Rattle.inline_instances.specs.Instances.{IsIndexOf, scope_in, scope_of_call}
use Rattle.inline_instances.specs.steps.Marks.{IsIn, AreMarks}
use Rattle.inline_instances.specs.steps.Table.{calls_in, IsPlaced, IsTable, scope_behind, with_instance, IsEntering}
use Rattle.inline_instances.proofs.Ways.{none_is_some, some_is_some, way_append, way_last, loops}
use Rattle.inline_instances.proofs.Members.{in_head, in_tail, get_left, get_last, get_cases, below_length}
use Rattle.inline_instances.proofs.Marks.{marks_with, unknown}

pub calls_append : (a b : List Instance) → calls_in (a ++ b) ≡ calls_in a ++ calls_in b
calls_append [] b = refl
calls_append (i ∷ a) b = ap (λ (ns : List ℕ). i.call ∷ ns) (calls_append a b)

pub calls_length : (a : List Instance) → length (calls_in a) ≡ length a
calls_length [] = refl
calls_length (i ∷ a) = let rest = calls_length a in omega arith

pub call_at_index : (a : List Instance) (k : ℕ) (i : Instance) → slice_get a k ≡ Some i → slice_get (calls_in a) k ≡ Some i.call
call_at_index a k i e = slice_get-map (λ (j : Instance). j.call) a k ∙ ap (option_map (λ (j : Instance). j.call)) e

pub instance_at : (instances : List Instance) (k n : ℕ) → slice_get (calls_in instances) k ≡ Some n
    → (i : Instance) × (slice_get instances k ≡ Some i) × (i.call ≡ n)
instance_at [] k n e = absurd (none_is_some n e)
instance_at (i ∷ instances) zero n e = (i, refl, some_is_some i.call n e)
instance_at (i ∷ instances) (suc k) n e = instance_at instances k n e

-- an index stays that of its call
pub index_kept : (calls more : List ℕ) (found call : Option ℕ) → IsIndexOf calls found call → IsIndexOf (calls ++ more) found call
index_kept calls more None None is = tt
index_kept calls more None (Some n) is = absurd is
index_kept calls more (Some k) None is = absurd is
index_kept calls more (Some k) (Some n) is = get_left calls more k n is

pub index_below : (calls : List ℕ) (found call : Option ℕ) → IsIndexOf calls found call → IfSome found (λ k. k < length calls)
index_below calls None call is = tt
index_below calls (Some k) None is = absurd is
index_below calls (Some k) (Some n) is = below_length calls k n is

-- ---- the scope at the end of a way

pub scope_last : (meta : Maps) (scope : Option ℕ) (way : List ℕ) (n : ℕ) → scope_behind meta scope (way ++ n ∷ []) ≡ scope_of_call meta n
scope_last meta scope [] n = refl
scope_last meta scope (m ∷ way) n = scope_last meta (scope_of_call meta m) way n

scope_at : (meta : Maps) (scope : Option ℕ) (way : List ℕ) (k n : ℕ) → suc k ≡ length way → slice_get way k ≡ Some n
    → scope_of_call meta n ≡ scope_behind meta scope way
scope_at meta scope [] k n size e = absurd (none_is_some n e)
scope_at meta scope (m ∷ []) zero n size e = ap (scope_of_call meta) (sym (some_is_some m n e))
scope_at meta scope (m ∷ []) (suc k) n size e = absurd (none_is_some n e)
scope_at meta scope (m ∷ j ∷ ms) zero n size e = absurd (omega (arith, size))
scope_at meta scope (m ∷ j ∷ ms) (suc k) n size e = scope_at meta (scope_of_call meta m) (j ∷ ms) k n (omega (arith, size)) e

pub scope_at_end : (meta : Maps) (scope : Option ℕ) (way : List ℕ) (n : ℕ) → slice_get way (length way - 1) ≡ Some n
    → scope_of_call meta n ≡ scope_behind meta scope way
scope_at_end meta scope [] n e = absurd (none_is_some n e)
scope_at_end meta scope (m ∷ way) n e = scope_at meta scope (m ∷ way) (length (m ∷ way) - 1) n (omega arith) e

scope_met : (meta : Maps) (scope : Option ℕ) (way : List ℕ) (c : ℕ) (rest : List ℕ) → (IsIn c way → ⊥)
    → scope_in meta c scope (way ++ c ∷ rest) ≡ scope_behind meta scope way
scope_met meta scope [] c rest apart =
    ap (λ (z : Bool). cond z scope (scope_in meta c (scope_of_call meta c) rest)) (eq-eqb c c refl)
scope_met meta scope (m ∷ way) c rest apart = by (nat_eq c m) refl (scope_met meta (scope_of_call meta m) way c rest)
  where
    by : (z : Bool) → nat_eq c m ≡ z
        → ((IsIn c way → ⊥) → scope_in meta c (scope_of_call meta m) (way ++ c ∷ rest) ≡ scope_behind meta (scope_of_call meta m) way)
        → cond z scope (scope_in meta c (scope_of_call meta m) (way ++ c ∷ rest)) ≡ scope_behind meta (scope_of_call meta m) way
    by true e later = absurd (apart (in_head c m way (eqb-true c m e)))
    by false e later = later (λ on. apart (in_tail c m way on))

-- ---- one more use

used_more : (known old entered : List ℕ) (c : ℕ) → known ≡ first_uses nat_eq old (reverse entered) → (IsIn c known → ⊥)
    → known ++ c ∷ [] ≡ first_uses nat_eq old (reverse (c ∷ entered))
used_more known old entered c e apart =
    sym (by (list_any (nat_eq c) known) refl)
    ∙ ap (λ (ns : List ℕ). first_uses nat_eq ns (c ∷ [])) e
    ∙ sym (uses_append nat_eq old (reverse entered) (c ∷ []))
    ∙ ap (first_uses nat_eq old) (sym (reverse_onto entered c []))
  where
    by : (z : Bool) → list_any (nat_eq c) known ≡ z → (if z then known else known ++ c ∷ []) ≡ known ++ c ∷ []
    by true on = absurd (apart on)
    by false off = refl

-- ---- one more instance

module _ (meta : Maps) (from scope : Option ℕ) (calls : List ℕ) (old : List Instance) (way : List ℕ) (c : ℕ) (outer inner : Option ℕ)
    (before behind : InstanceTable) (k : ℕ) (is : IsEntering meta from scope calls old (way ++ c ∷ []) outer before)
    (made : with_instance before.instances.items c outer inner behind.instances.items k)
    (updates : Updates nat_cmp before.marks behind.marks c (Some (Some k))) (here : inner ≡ scope_behind meta scope way) where
  abbrev instance : Instance
  instance = record { call = c; parent = outer; scope = inner }

  abbrev known : List ℕ
  known = calls_in before.instances.items

  to_it : IsWay meta from way (Some c)
  to_it = (way_last meta from is.at way c is.left).0

  around : outer_call meta c ≡ is.at
  around = (way_last meta from is.at way c is.left).1

  from_it : AreCallsFrom meta (Some c) (c ∷ is.entered)
  from_it = (refl, subst (λ (o : Option ℕ). IsWay meta o is.entered None) (sym around) is.rest)

  split : calls ≡ way ++ (c ∷ is.entered)
  split = is.whole ∙ append_assoc way (c ∷ []) is.entered

  apart : IsIn c way → ⊥
  apart on = loops meta from way c (way ++ (c ∷ is.entered)) to_it on (way_append meta from (Some c) None way (c ∷ is.entered) to_it from_it)

  now_known : calls_in behind.instances.items ≡ known ++ c ∷ []
  now_known = ap calls_in made.0 ∙ calls_append before.instances.items (instance ∷ [])

  size : k ≡ length known
  size = made.1 ∙ sym (calls_length before.instances.items)

  marks_now : AreMarks meta (known ++ c ∷ []) way behind.marks
  marks_now =
      marks_with meta known way before.marks behind.marks c is.table.marks
      (subst (λ (n : ℕ). Updates nat_cmp before.marks behind.marks c (Some (Some n))) size updates) apart

  placed_before : (j : ℕ) (i : Instance) → IsPlaced meta known j i → IsPlaced meta (known ++ c ∷ []) j i
  placed_before j i at = record { parent = index_kept known (c ∷ []) i.parent (outer_call meta i.call) at.parent; earlier = at.earlier }

  placed_now : IsPlaced meta (known ++ c ∷ []) (length before.instances.items) instance
  placed_now = record {
    parent = index_kept known (c ∷ []) outer (outer_call meta c) (subst (IsIndexOf known outer) (sym around) is.index);
    earlier = subst (λ (n : ℕ). IfSome outer (λ p. p < n)) (calls_length before.instances.items) (index_below known outer is.at is.index);
  }

  placed : (j : ℕ) (i : Instance) → slice_get behind.instances.items j ≡ Some i → IsPlaced meta (known ++ c ∷ []) j i
  placed j i e = elim (get_cases before.instances.items instance j i (ap (λ (is : List Instance). slice_get is j) (sym made.0) ∙ e)) [
    | inl at ↦ placed_before j i (is.table.placed j i at)
    | inr last ↦
        subst (λ (m : ℕ). IsPlaced meta (known ++ c ∷ []) m i) (sym last.0)
        (subst (IsPlaced meta (known ++ c ∷ []) (length before.instances.items)) (sym last.1) placed_now)
  ]

  scopes : (j : ℕ) (i : Instance) → length old ≤ j → slice_get behind.instances.items j ≡ Some i → i.scope ≡ scope_in meta i.call scope calls
  scopes j i past e = elim (get_cases before.instances.items instance j i (ap (λ (is : List Instance). slice_get is j) (sym made.0) ∙ e)) [
    | inl at ↦ is.scopes j i past at
    | inr last ↦
        ap (λ (h : Instance). h.scope) last.1 ∙ here ∙ sym (scope_met meta scope way c is.entered apart)
        ∙ ap (scope_in meta c scope) (sym split)
        ∙ ap (λ (h : Instance). scope_in meta h.call scope calls) (sym last.1)
  ]

  pub entered_more : IsEntering meta from scope calls old way (Some k) behind
  entered_more = record {
    entered = c ∷ is.entered;
    whole = split;
    at = Some c;
    left = to_it;
    rest = from_it;
    table = record {
      marks = subst (λ (ns : List ℕ). AreMarks meta ns way behind.marks) (sym now_known) marks_now;
      placed = λ j i e. subst (λ (ns : List ℕ). IsPlaced meta ns j i) (sym now_known) (placed j i e);
    };
    index =
        subst (λ (ns : List ℕ). slice_get ns k ≡ Some c) (sym now_known)
        (ap (slice_get (known ++ c ∷ [])) size ∙ get_last known c);
    known =
        now_known
        ∙ used_more known (calls_in old) is.entered c is.known
        (unknown meta known way before.marks behind.marks c is.table.marks
        (subst (λ (n : ℕ). Updates nat_cmp before.marks behind.marks c (Some (Some n))) size updates) apart);
    added = is.added ++ instance ∷ [];
    kept =
        made.0 ∙ ap (λ (is : List Instance). is ++ instance ∷ []) is.kept ∙ append_assoc old is.added (instance ∷ []);
    scopes = scopes;
  }
