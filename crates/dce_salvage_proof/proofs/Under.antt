-- Numbers that are less than the next fresh one, where a copy's number goes to code.
use Rattle.std.proofs.Common.{◌≡◌, ℕ, suc, ◌+◌, ◌<◌, ◌≤◌, List, [], ◌∷◌, ◌++◌, drop, Option, Some, None, Bool, true, false, cond, not}
use Rattle.std.proofs.Common.{◌&&◌, nat_eq, eq-eqb, ne_eqb, slice_get, refl, sym, ap, ◌∙◌, subst, arith}
use Rattle.std.specs.List.{list_any}
use Rattle.std.specs.Prelude.{nat_lt, ◌^◌}
use Rattle.std.proofs.lemmas.List.Elements.{All-append, All-cons, All-tail}
use Rattle.std.proofs.lemmas.Option.{slice_get_within, get_or_from_slice_get}
use Rattle.mir_func.specs.declared.debug_substitution.DebugSubstitution.{DebugSubstitution}
use Rattle.mir_func.specs.declared.item.Item.{Item}
use Rattle.mir_func.specs.declared.item.ItemKind.TheVariants.{Code}
use Rattle.pass_trait.specs.Rule.{item}
use Rattle.pass_salvage.specs.declared.salvage_action.SalvageAction.TheVariants.{GetsEntry}
use Rattle.pass_salvage.specs.Salvage.{numbered_at, fresh_after}
use Rattle.pass_salvage.specs.SalvageAction.{has_entry, or_fresh, asks_for}
use Rattle.pass_salvage.proofs.Chosen.{IsEntered}
use Rattle.pass_edits.proofs.Numbers.{all_first, all_second}
use Rattle.pass_edits.proofs.Found.{Split, split_at}
use Rattle.pass_edits.proofs.Under.{KindUnder, AreUnder, items_more}

-- whatever goes besides, the code that was chosen may stand for the copy
weaker : (a b c d : Bool) → (a && b && c && d) ≡ true → (a && true && c && d) ≡ true
weaker true true c d h = h
weaker true false c d h = cc
weaker false b c d h = cc

pub with_none : (removed : List ℕ) (subs : List DebugSubstitution) (fresh k s : ℕ) (above : List Item) (d o n : ℕ) →
    IsEntered removed subs fresh k s above d o n →
    IsEntered [] subs fresh k s above d o n
with_none removed subs fresh k s above d o n e = record {
  i = e.i;
  own = e.own;
  origin = e.origin;
  loc = e.loc;
  none = e.none;
  last = e.last;
  stands = e.stands;
  operand = e.operand;
  number = e.number;
  may = weaker (nat_lt o (2 ^ 32)) (not (list_any (nat_eq d) removed)) (not (has_entry subs e.own o))
      (not (list_any (λ x. asks_for subs k x.kind) (drop (suc d) above))) e.may;
}

-- the next fresh number, and all that have theirs above the copy
pub record Counted (fresh n next : ℕ) (above : List Item) : Type 0 where
  pub least : fresh ≤ next
  pub number : n < next
  pub under : AreUnder next above

under_at : (b : ℕ) (xs : List Item) (d : ℕ) (x : Item) → AreUnder b xs → slice_get xs d ≡ Some x → KindUnder b x.kind
under_at b xs d x h at =
    subst (λ (y : Item). KindUnder b y.kind) (get_or_from_slice_get xs d x x at) (h d x (slice_get_within xs d x at))

pub counted : (subs : List DebugSubstitution) (fresh k s : ℕ) (above : List Item) (d o n : ℕ) → IsEntered [] subs fresh k s above d o n → AreUnder fresh above →
    Counted fresh n (fresh_after (GetsEntry d o n) fresh) (numbered_at d n above)
counted subs fresh k s above d o n e h = by_own e.own refl where
  next : ℕ
  next = cond (nat_eq n fresh) (fresh + 1) fresh

  giver : Item
  giver = item (Code e.i e.own) e.origin e.loc

  split : Split above d n giver
  split = split_at above d n giver e.stands

  all : fresh ≤ next → n < next → Counted fresh n next (numbered_at d n above)
  all le lt =
      let more : AreUnder next (split.above ++ giver ∷ split.behind) = subst (AreUnder next) split.whole (items_more fresh next le above h) in
      let behind = all_second (λ (y : Item). KindUnder next y.kind) split.above (giver ∷ split.behind) more in
      record {
        least = le;
        number = lt;
        under = subst (AreUnder next) (sym split.numbered)
            (All-append (λ (y : Item). KindUnder next y.kind) split.above (item (Code e.i (Some n)) e.origin e.loc ∷ split.behind)
            (all_first (λ (y : Item). KindUnder next y.kind) split.above (giver ∷ split.behind) more)
            (All-cons (λ (y : Item). KindUnder next y.kind) (item (Code e.i (Some n)) e.origin e.loc) split.behind lt
            (All-tail (λ (y : Item). KindUnder next y.kind) giver split.behind behind)));
      }

  by_own : (z : Option ℕ) → e.own ≡ z → Counted fresh n next (numbered_at d n above)
  by_own None is =
      let same : n ≡ fresh = e.number ∙ ap (or_fresh fresh) is in
      let one : next ≡ fresh + 1 = ap (λ (z : Bool). cond z (fresh + 1) fresh) (eq-eqb n fresh same) in
      all (omega (arith, one)) (omega (arith, one, same))
  by_own (Some m) is =
      let same : n ≡ m = e.number ∙ ap (or_fresh fresh) is in
      let lt : m < fresh = under_at fresh above d (item (Code e.i (Some m)) e.origin e.loc) h
      (e.stands ∙ (λ j. Some (item (Code e.i (is j)) e.origin e.loc))) in
      let one : next ≡ fresh = ap (λ (z : Bool). cond z (fresh + 1) fresh) (ne_eqb n fresh (λ is. omega (arith, same, lt, is))) in
      all (omega (arith, one)) (omega (arith, one, same, lt))
