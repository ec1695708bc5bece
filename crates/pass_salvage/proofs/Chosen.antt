-- Which way is chosen.
use Rattle.std.proofs.Common.{◌≡◌, ℕ, suc, ◌+◌, ◌-◌, ◌<◌, List, length, get_or, take, drop, Option, Some, None, Bool, true, false, cond, refl}
use Rattle.std.proofs.Common.{sym, ap, ◌∙◌, arith}
use Rattle.std.specs.Prelude.{slice_get}
use Rattle.std.proofs.lemmas.List.{take_all, length-drop}
use Rattle.std.proofs.lemmas.Option.{slice_get-get_or, slice_get_within}
use Rattle.mir_func.specs.declared.debug_substitution.DebugSubstitution.{DebugSubstitution}
use Rattle.mir_func.specs.declared.item.Item.{Item}
use Rattle.mir_func.specs.declared.item.ItemKind.{ItemKind}
use Rattle.pass_salvage.specs.declared.salvage_action.SalvageAction.TheVariants.{HasEntry, GetsEntry, GetsPhi}
use Rattle.mir_func.specs.declared.item.ItemKind.TheVariants.{Code, Mark, Phi}
use Rattle.mir_func.specs.declared.position.Origin.{Origin}
use Rattle.mir_func.specs.declared.location.Loc.{Loc}
use Rattle.rv64_instr.specs.Instruction.{Instruction}
use Rattle.rv64_instr.specs.Row.{row_of}
use Rattle.rv64_instr.specs.LocationEffects.{is_call}
use Rattle.pass_trait.specs.Rule.{item}
use Rattle.pass_salvage.specs.SalvageAction.{has_entry, or_fresh, last_definition, first_definition, may_stand}
use Rattle.pass_salvage.specs.SalvageAction.{action_by, action_of_kind, action_at, action_from, salvage_action}

module _ (removed : List ℕ) (subs : List DebugSubstitution) (fresh k s : ℕ) (above : List Item) where
  pub chosen_from : has_entry subs (Some k) 0 ≡ false →
      salvage_action removed subs fresh k s above ≡ action_from removed subs fresh k s above (last_definition s above)
  chosen_from e = ap (λ (z : Bool). cond z HasEntry (action_from removed subs fresh k s above (last_definition s above))) e

  -- by the kind of the last definition
  pub chosen_at : (d : ℕ) (x : Item) (kind : ItemKind) → has_entry subs (Some k) 0 ≡ false → last_definition s above ≡ Some d → d < length above →
      (get_or above d x).kind ≡ kind → salvage_action removed subs fresh k s above ≡ action_of_kind removed subs fresh k s d above kind
  chosen_at d x kind e found lt is =
      chosen_from e ∙ ap (action_from removed subs fresh k s above) found ∙ ap (action_at removed subs fresh k s d above) (slice_get-get_or above d x lt) ∙
      ap (action_of_kind removed subs fresh k s d above) is

-- all that is left from an index on
pub all_behind : {A : Type 0} (xs : List A) (d : ℕ) → take (length xs - (d + 1)) (drop (d + 1) xs) ≡ drop (suc d) xs
all_behind xs d =
    let len : length (drop (d + 1) xs) ≡ length xs - (d + 1) = length-drop (d + 1) xs in
    let e : d + 1 ≡ suc d = omega arith in
    take_all (length xs - (d + 1)) (drop (d + 1) xs) (omega (arith, len)) ∙ ap (λ n. drop n xs) e

-- what holds where the copy's pair gets an entry
pub record IsEntered (removed : List ℕ) (subs : List DebugSubstitution) (fresh k s : ℕ) (above : List Item) (d o n : ℕ) : Type 0 where
  pub i : Instruction
  pub own : Option ℕ
  pub origin : Origin
  pub loc : Loc
  pub none : has_entry subs (Some k) 0 ≡ false
  pub last : last_definition s above ≡ Some d
  pub stands : slice_get above d ≡ Some (item (Code i own) origin loc)
  pub operand : first_definition (is_call (row_of i)) s i.operands ≡ Some o
  pub number : n ≡ or_fresh fresh own
  pub may : may_stand removed subs k d own o (drop (suc d) above) ≡ true

module _ (removed : List ℕ) (subs : List DebugSubstitution) (fresh k s : ℕ) (above : List Item) (d o n : ℕ) where
  entered_by : (i : Instruction) (own : Option ℕ) (origin : Origin) (loc : Loc) (e : ℕ) → has_entry subs (Some k) 0 ≡ false → last_definition s above ≡ Some e →
      slice_get above e ≡ Some (item (Code i own) origin loc) → (p : Option ℕ) → first_definition (is_call (row_of i)) s i.operands ≡ p →
      action_by removed subs fresh k e own p (drop (suc e) above) ≡ GetsEntry d o n → IsEntered removed subs fresh k s above d o n
  entered_by i own origin loc e none last at None operand is = cc
  entered_by i own origin loc e none last at (Some p) operand is = by_test (may_stand removed subs k e own p (drop (suc e) above)) refl is where
    by_test : (may : Bool) → may_stand removed subs k e own p (drop (suc e) above) ≡ may →
        cond may (GetsEntry e p (or_fresh fresh own)) GetsPhi ≡ GetsEntry d o n → IsEntered removed subs fresh k s above d o n
    by_test false m w = cc
    by_test true m w =
        let de : e ≡ d = cc in
        let po : p ≡ o = cc in
        let nn : or_fresh fresh own ≡ n = cc in
        record {
          i = i;
          own = own;
          origin = origin;
          loc = loc;
          none = none;
          last = last ∙ ap Some de;
          stands = ap (slice_get above) (sym de) ∙ at;
          operand = operand ∙ ap Some po;
          number = sym nn;
          may = (λ j. may_stand removed subs k (sym de j) own (sym po j) (drop (suc (sym de j)) above)) ∙ m;
        }

  pub entered : salvage_action removed subs fresh k s above ≡ GetsEntry d o n → IsEntered removed subs fresh k s above d o n
  entered is = by_entry (has_entry subs (Some k) 0) refl is where
    by_item : has_entry subs (Some k) 0 ≡ false → (e : ℕ) → last_definition s above ≡ Some e → (x : Option Item) → slice_get above e ≡ x →
        action_at removed subs fresh k s e above x ≡ GetsEntry d o n → IsEntered removed subs fresh k s above d o n
    by_item none e last None at w = cc
    by_item none e last (Some x) at w = by_kind x.kind refl w where
      by_kind : (kind : ItemKind) → x.kind ≡ kind → action_of_kind removed subs fresh k s e above kind ≡ GetsEntry d o n →
          IsEntered removed subs fresh k s above d o n
      by_kind (Mark v m) same w = cc
      by_kind (Phi p m) same w = cc
      by_kind (Code i own) same w =
          entered_by i own x.origin x.loc e none last (at ∙ (λ j. Some (item (same j) x.origin x.loc))) (first_definition (is_call (row_of i)) s i.operands)
          refl w

    by_last : has_entry subs (Some k) 0 ≡ false → (e : Option ℕ) → last_definition s above ≡ e →
        action_from removed subs fresh k s above e ≡ GetsEntry d o n → IsEntered removed subs fresh k s above d o n
    by_last none None last w = cc
    by_last none (Some e) last w = by_item none e last (slice_get above e) refl w

    by_entry : (has : Bool) → has_entry subs (Some k) 0 ≡ has →
        cond has HasEntry (action_from removed subs fresh k s above (last_definition s above)) ≡ GetsEntry d o n → IsEntered removed subs fresh k s above d o n
    by_entry true e w = cc
    by_entry false e w = by_last e (last_definition s above) refl w

  pub entered_within : salvage_action removed subs fresh k s above ≡ GetsEntry d o n → d < length above
  entered_within w = let e = entered w in slice_get_within above d _ e.stands
