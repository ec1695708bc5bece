-- What the debug rule leaves of what is shown: each mark is one that was there, of the same part and location, or a kill; and each phi has the place
-- of one that was there, or one that the rule gives it.
use Rattle.std.proofs.Common.{◌≡◌, ◌⊎◌, inl, inr, ℕ, ◌<◌, List, [], ◌∷◌, ◌++◌, Option, Some, None, refl, ap, subst, arith}
use Rattle.std.specs.Prelude.{All, Contains}
use Rattle.std.proofs.lemmas.List.Elements.{All-nil, All-cons, All-append, All-same, Contains-append_left, Contains-append_right}
use Rattle.rv64_instr.specs.declared.place.Place.{Place}
use Rattle.rv64_instr.specs.declared.place.Place.TheVariants.{Register, Slot}
use Rattle.rv64_instr.specs.Instruction.{Instruction}
use Rattle.mir_func.specs.declared.block.Block.{Block}
use Rattle.mir_func.specs.declared.item.Item.{Item}
use Rattle.mir_func.specs.declared.item.ItemKind.TheVariants.{Code, Mark, Phi}
use Rattle.mir_func.specs.declared.location.Loc.{Loc}
use Rattle.mir_func.specs.declared.position.Origin.{Origin}
use Rattle.mir_func.specs.declared.position.Pos.{Pos}
use Rattle.mir_func.specs.declared.variable.MarkValue.{MarkValue}
use Rattle.mir_func.specs.declared.variable.MarkValue.TheVariants.{At, Pair}
use Rattle.mir_func.specs.declared.variable.VarId.{VarId}
use Rattle.mir_func.specs.Sound.{items_of}
use Rattle.pass_trait.specs.Change.{Change}
use Rattle.pass_trait.specs.Rule.{Rule, item, first_operand}
use Rattle.pass_trait.specs.Debug.{Becomes, BecomeAll, BlocksBecome, over, next, none, stays, goes}
use Rattle.pass_trait.specs.Debug.{added_at_start, added_before, added_after, added_at_end}
use Rattle.pass_trait.specs.Debug.{mark_stays, phi_stays, code_stays, code_numbered, code_unnumbered, jump_stays, code_goes, idle_goes, number_goes}
use Rattle.pass_trait.specs.Debug.{substituted, salvaged, salvaged_wrong, mark_silenced, phi_silenced, mark_goes, phi_goes, mark_spilled, phi_spilled}
use Rattle.pass_trait.specs.Debug.{mark_renamed, phi_renamed}
use Rattle.pass_manager.specs.Shown.{IsMarkOf, IsPhiOf, HasMark, HasPhi, IsGiven}

module _ (rule : Rule) (c : Change) where
  -- what is shown of an item was shown before
  pub record WasShown (j : Item) : Type 0 where
    pub marks : (v : VarId) (l : Loc) → IsMarkOf v l j → HasMark c.old v l
    pub places : (p : Place) → IsPhiOf p j → HasPhi c.old p ⊎ IsGiven p

  abbrev WasThere : Item → Type 0
  WasThere i = Contains (items_of c.old.blocks) i

  code_shown : (i : Instruction) (k : Option ℕ) (o : Origin) (l : Loc) → WasShown (item (Code i k) o l)
  code_shown i k o l = record { marks = λ v m (x, e, at). cc; places = λ p (n, e). cc }

  mark_shown : (v : VarId) (m n : MarkValue) (o q : Origin) (l : Loc) → WasThere (item (Mark v m) o l) → WasShown (item (Mark v n) q l)
  mark_shown v m n o q l there = record {
    marks = λ w at (x, e, same).
        let is : v ≡ w = cc in
        (item (Mark v m) o l, there, (m, ap (λ (z : VarId). Mark z m) is, same));
    places = λ p (k, e). cc;
  }

  phi_shown : (p : Option Place) (k n : ℕ) (o q : Origin) (l m : Loc) → WasThere (item (Phi p k) o l) → WasShown (item (Phi p n) q m)
  phi_shown p k n o q l m there = record {
    marks = λ v at (x, e, same). cc;
    places = λ r (j, e).
        let is : p ≡ Some r = cc in
        inl (item (Phi p k) o l, there, (k, ap (λ (z : Option Place). Phi z k) is));
  }

  nothing_shown : (k : ℕ) (o : Origin) (l : Loc) → WasShown (item (Phi None k) o l)
  nothing_shown k o l = record { marks = λ v at (x, e, same). cc; places = λ r (j, e). cc }

  given_shown : (p : Place) (k : ℕ) (o : Origin) (l : Loc) → IsGiven p → WasShown (item (Phi (Some p) k) o l)
  given_shown p k o l given = record {
    marks = λ v at (x, e, same). cc;
    places = λ r (j, e).
        let is : p ≡ r = cc in
        inr (subst IsGiven is given);
  }

  alone : (j : Item) → WasShown j → All WasShown (j ∷ [])
  alone j is = All-cons WasShown j [] is (All-nil WasShown)

  code_behind : (j : Item) (i : Instruction) (o : Origin) (l : Loc) (js : List Item) → All WasShown (j ∷ []) → All WasShown js →
      All WasShown (j ∷ item (Code i None) o l ∷ js)
  code_behind j i o l js is rest =
      All-append WasShown (j ∷ []) (item (Code i None) o l ∷ js) is (All-cons WasShown (item (Code i None) o l) js (code_shown i None o l) rest)

  -- the rule gives no phi x0, and puts kills for what was there
  module _ (renames : (r now : ℕ) → rule.renames c r now → 0 < now) (salvages : (at : Pos) (p : Place) → rule.salvages c at p → IsGiven p)
      (kills : (b : ℕ) (ks : List Item) → rule.kills c b ks → All WasShown ks) where
    becomes_shown : {at : Pos} {x : Item} {ys : List Item} → WasThere x → Becomes rule c at x ys → All WasShown ys
    becomes_shown there (mark_stays {v} {m} {o} {l} unlost stay) = alone _ (mark_shown v m m o o l there)
    becomes_shown there (phi_stays {p} {k} {o} {l} unlost stay) = alone _ (phi_shown p k k o o l l there)
    becomes_shown there (code_stays {i} {j} {k} {o} {l} unlost) = alone _ (code_shown j (Some k) o l)
    becomes_shown there (code_numbered {i} {j} {k} {o} {l} number) = alone _ (code_shown j (Some k) o l)
    becomes_shown there (code_unnumbered {i} {j} {o} {l} number) = alone _ (code_shown j None o l)
    becomes_shown there (jump_stays {j} {k} {o'} {l'} was is unlost) = alone _ (code_shown j k o' l')
    becomes_shown there (code_goes number fewer) = All-nil WasShown
    becomes_shown there (idle_goes sets fewer) = All-nil WasShown
    becomes_shown there (number_goes k why gone has lost) = All-nil WasShown
    becomes_shown there (substituted k e copy removed has entry unlost) = All-nil WasShown
    becomes_shown there (salvaged {i} {n} {k} {o} {l} {p} copy removed has place unlost) = alone _ (given_shown p k _ _ (salvages _ p place))
    becomes_shown there (salvaged_wrong {i} {n} {k} {o} {l} {p} copy removed has place lost) = alone _ (nothing_shown k _ _)
    becomes_shown there (mark_silenced {v} {r} {o} {l} why fate lost) = alone _ (mark_shown v _ _ o o l there)
    becomes_shown there (phi_silenced {p} {k} {o} {l} why fate lost) = alone _ (nothing_shown k o l)
    becomes_shown there (mark_goes why fate lost) = All-nil WasShown
    becomes_shown there (phi_goes why fate lost) = All-nil WasShown
    becomes_shown there (mark_spilled {v} {r} {slot} {k} {o} {l} unlost spills number) =
        let mark : Item = item (Mark v (Pair (first_operand k))) o l in
        All-cons WasShown _ (mark ∷ []) (given_shown (Slot slot) k _ _ tt) (alone mark (mark_shown v (At r) (Pair (first_operand k)) o o l there))
    becomes_shown there (phi_spilled {r} {slot} {k} {o} {l} unlost spills) = alone _ (given_shown (Slot slot) k o l tt)
    becomes_shown there (mark_renamed {v} {r} {now} {o} {l} unlost is) = alone _ (mark_shown v _ _ o o l there)
    becomes_shown there (phi_renamed {r} {now} {k} {o} {l} unlost is) = alone _ (given_shown (Register now) k o l (renames r now is))

    all_shown : {block n : ℕ} {xs ys : List Item} → ((i : Item) → Contains xs i → WasThere i) → BecomeAll rule c block n xs ys → All WasShown ys
    all_shown there over = All-nil WasShown
    all_shown there (next {n} {x} {xs} {ys} {zs} one rest) =
        All-append WasShown ys zs (becomes_shown (there x (Contains-append_left (x ∷ []) xs x (0, omega arith, refl))) one)
        (all_shown (λ i is. there i (Contains-append_right (x ∷ []) xs i is)) rest)
    all_shown there (added_at_start {i} {l} {xs} {ys} more rest) = All-cons WasShown _ ys (code_shown i None _ l) (all_shown there rest)
    all_shown there (added_before {n} {i} {l} {y} {xs} {ys} code more rest) = All-cons WasShown _ (y ∷ ys) (code_shown i None _ l) (all_shown there rest)
    all_shown there (added_after {n} {i} {l} {x} {y} {xs} {zs} code more one rest) =
        code_behind y i _ l zs (becomes_shown (there x (Contains-append_left (x ∷ []) xs x (0, omega arith, refl))) one)
        (all_shown (λ j is. there j (Contains-append_right (x ∷ []) xs j is)) rest)
    all_shown there (added_at_end {n} {i} {o} {l} jump more) = alone _ (code_shown i None o l)

    pub blocks_shown : {xs ys : List Block} → ((i : Item) → Contains (items_of xs) i → WasThere i) → BlocksBecome rule c xs ys → All WasShown (items_of ys)
    blocks_shown there none = All-nil WasShown
    blocks_shown there (stays {x} {y} {xs} {ys} ks items id source_end are killed kill all rest) =
        All-append WasShown y.items (items_of ys)
        (All-same WasShown y.items (ks ++ items) are
        (All-append WasShown ks items (kills x.id ks killed) (all_shown (λ i is. there i (Contains-append_left x.items (items_of xs) i is)) all)))
        (blocks_shown (λ i is. there i (Contains-append_right x.items (items_of xs) i is)) rest)
    blocks_shown there (goes {x} {xs} {ys} all rest) =
        blocks_shown (λ i is. there i (Contains-append_right x.items (items_of xs) i is)) rest
