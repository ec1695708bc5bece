-- One copy loses its number: the function stays sound and following.
use Rattle.std.proofs.Common.{◌≡◌, ℕ, zero, suc, ◌<◌, ◌≤◌, List, [], ◌∷◌, ◌++◌, take, drop, get_or, All, Option, Some, None, Bool, true, false, nat_eq}
use Rattle.std.proofs.Common.{slice_get, append-nil, refl, sym, ap, ◌∙◌, subst, arith}
use Rattle.std.proofs.Math.Nat.{le_refl}
use Rattle.std.proofs.lemmas.List.Elements.{All-nil, All-append, All-cons, All-head, All-tail}
use Rattle.rv64_instr.specs.Instruction.{Instruction}
use Rattle.rv64_instr.specs.Row.{Row, Moves, row_of}
use Rattle.mir_func.specs.declared.debug_substitution.DebugSubstitution.{DebugSubstitution}
use Rattle.mir_func.specs.declared.position.Origin.{Origin}
use Rattle.mir_func.specs.declared.location.Loc.{Loc}
use Rattle.mir_func.specs.declared.block.Block.{Block}
use Rattle.mir_func.specs.declared.item.Item.{Item}
use Rattle.mir_func.specs.declared.item.ItemKind.{ItemKind}
use Rattle.mir_func.specs.declared.item.ItemKind.TheVariants.{Code, Mark, Phi}
use Rattle.mir_func.specs.Function.{Function}
use Rattle.mir_func.specs.Sound.{IsSound}
use Rattle.pass_trait.specs.Change.{change}
use Rattle.pass_trait.specs.Rule.{item}
use Rattle.pass_salvage.specs.declared.salvage_action.SalvageAction.{SalvageAction}
use Rattle.pass_salvage.specs.declared.salvage_action.SalvageAction.TheVariants.{HasEntry, GetsEntry, GetsPhi}
use Rattle.pass_salvage.specs.SalvageAction.{salvage_action}
use Rattle.pass_salvage.specs.Salvage.{numbered_at, phi_for, entry_for, entries_for, fresh_after, above_after}
use Rattle.pass_salvage.proofs.Chosen.{IsEntered, entered}
use Rattle.pass_edits.specs.WeakSimulation.{PreservesWeakSimulation}
use Rattle.pass_edits.proofs.Numbers.{all_first, all_second}
use Rattle.pass_edits.proofs.Around.{with_block}
use Rattle.pass_edits.proofs.Under.{KindUnder, AreUnder, BlocksUnder, EntryUnder, items_more, blocks_more, entries_more}
use Rattle.pass_edits.proofs.Loose.{Step}
use Rattle.pass_edits.proofs.ToPhi.{to_phi}
use Rattle.pass_edits.proofs.ToCode.{to_code}
use Rattle.dce_salvage.specs.declared.salvage_numbers.Copied.{Copied}
use Rattle.dce_salvage.specs.SalvageNumbers.{copied_by, numbered_copy, phi_by_own, added_by_salvage, salvaged_from}
use Rattle.dce_salvage.specs.SalvageNumbers.{salvaged_items, SoFar, salvage_copy, copy_in, salvage_at, salvage_down}
use Rattle.dce_salvage_proof.proofs.SalvageNowhere.{phi_none, to_nowhere, to_phi_none}
use Rattle.dce_salvage_proof.proofs.Under.{with_none, Counted, counted}

-- ---- what is a copy

pub record IsCopyOf (k : ItemKind) (c : Copied) : Type 0 where
  pub code : Instruction
  pub target : ℕ
  pub is : k ≡ Code code (Some c.number)
  pub row : row_of code ≡ Moves (suc target) c.source
  pub own : c.own ≡ nat_eq (suc target) c.source

pub copy_of : (k : ItemKind) (c : Copied) → numbered_copy k ≡ Some c → IsCopyOf k c
copy_of (Code i None) c e = cc
copy_of (Mark v m) c e = cc
copy_of (Phi p m) c e = cc
copy_of (Code i (Some n)) c e = by_row (row_of i) refl e where
  by_row : (r : Row) → row_of i ≡ r → copied_by r n ≡ Some c → IsCopyOf (Code i (Some n)) c
  by_row (Moves zero s) is w = cc
  by_row (Moves (suc rd) s) is w =
      let same : record { number = n; source = s; own = nat_eq (suc rd) s } ≡ c = cc in
      record {
        code = i;
        target = rd;
        is = (λ j. Code i (Some (same j).number));
        row = is ∙ (λ j. Moves (suc rd) (same j).source);
        own = sym (ap (λ (z : Copied). z.own) same) ∙ (λ j. nat_eq (suc rd) (same j).source);
      }
  by_row _ is w = cc

-- ---- a list at an index

pub record SplitAt (xs : List Item) (n : ℕ) (x : Item) : Type 0 where
  pub whole : xs ≡ take n xs ++ x ∷ drop (suc n) xs
  pub behind : drop n xs ≡ x ∷ drop (suc n) xs

pub split_at : (xs : List Item) (n : ℕ) (x : Item) → slice_get xs n ≡ Some x → SplitAt xs n x
split_at [] n x e = cc
split_at (y ∷ []) zero x e =
    let w : y ≡ x = cc in record { whole = ap (λ (z : Item). z ∷ []) w; behind = ap (λ (z : Item). z ∷ []) w }
split_at (y ∷ z ∷ ys) zero x e =
    let w : y ≡ x = cc in record { whole = ap (λ (u : Item). u ∷ z ∷ ys) w; behind = ap (λ (u : Item). u ∷ z ∷ ys) w }
split_at (y ∷ ys) (suc n) x e =
    let s = split_at ys n x e in record { whole = ap (λ (zs : List Item). y ∷ zs) s.whole; behind = s.behind }

module _ (f : Function) (above : List Block) (id source_end : ℕ) (behind : List Block) where
  abbrev fn : List Item → Function
  fn items = with_block f above id source_end items behind

  -- what holds before each step
  pub record Ready (items : List Item) (subs : List DebugSubstitution) (fresh : ℕ) : Type 0 where
    pub sound : IsSound (with_block f above id source_end items behind)
    pub in_above : BlocksUnder fresh above
    pub in_items : AreUnder fresh items
    pub in_behind : BlocksUnder fresh behind
    pub in_entries : All (EntryUnder fresh) subs

  pub record Went (items : List Item) (subs : List DebugSubstitution) (items' : List Item) (subs' : List DebugSubstitution) (fresh' : ℕ) : Type 0 where
    pub ready : Ready items' subs' fresh'
    pub follows : PreservesWeakSimulation (change (with_block f above id source_end items behind) subs (with_block f above id source_end items' behind) subs')

  abbrev U : ℕ → Item → Type 0
  U b x = KindUnder b x.kind

  it_went : (items : List Item) (subs : List DebugSubstitution) (fresh : ℕ) (items' : List Item) (subs' : List DebugSubstitution) (fresh' : ℕ) →
      Ready items subs fresh →
      fresh ≤ fresh' → AreUnder fresh' items' → All (EntryUnder fresh') subs' → Step (fn items) subs (fn items') subs' →
      Went items subs items' subs' fresh'
  it_went items subs fresh items' subs' fresh' r le under entries step = record {
    ready = record {
      sound = step.sound;
      in_above = blocks_more fresh fresh' le above r.in_above;
      in_items = under;
      in_behind = blocks_more fresh fresh' le behind r.in_behind;
      in_entries = entries;
    };
    follows = step.follows;
  }

  module _ (k s rd : ℕ) (up : List Item) (i : Instruction) (o : Origin) (l : Loc) (down : List Item) (subs : List DebugSubstitution) (fresh : ℕ) (lost : ℕ)
      (row : row_of i ≡ Moves (suc rd) s) where
    abbrev copy : Item
    copy = item (Code i (Some k)) o l

    abbrev bare : Item
    bare = item (Code i None) o l

    module _ (r : Ready (up ++ copy ∷ down) subs fresh) where
      under_up : AreUnder fresh up
      under_up = all_first (U fresh) up (copy ∷ down) r.in_items

      under_rest : AreUnder fresh (copy ∷ down)
      under_rest = all_second (U fresh) up (copy ∷ down) r.in_items

      under_copy : k < fresh
      under_copy = All-head (U fresh) copy down under_rest

      under_down : AreUnder fresh down
      under_down = All-tail (U fresh) copy down under_rest

      under_bare : AreUnder fresh (bare ∷ down)
      under_bare = All-cons (U fresh) bare down tt under_down

      -- by the phi that is put, if one is
      phi_goes : (own : Bool) → Went (up ++ copy ∷ down) subs (up ++ phi_by_own own k s o ∷ bare ∷ down) subs fresh
      phi_goes true =
          it_went (up ++ copy ∷ down) subs fresh (up ++ phi_none k o ∷ bare ∷ down) subs fresh r (le_refl fresh)
          (All-append (U fresh) up (phi_none k o ∷ bare ∷ down) under_up (All-cons (U fresh) (phi_none k o) (bare ∷ down) under_copy under_bare)) r.in_entries
          (to_phi_none f above id source_end behind k up i o l down subs rd s row r.sound)
      phi_goes false =
          it_went (up ++ copy ∷ down) subs fresh (up ++ phi_for k s o ∷ bare ∷ down) subs fresh r (le_refl fresh)
          (All-append (U fresh) up (phi_for k s o ∷ bare ∷ down) under_up (All-cons (U fresh) (phi_for k s o) (bare ∷ down) under_copy under_bare)) r.in_entries
          (to_phi f above id source_end behind k rd s up i o l down subs r.sound row)

      pub copy_goes : (removed : List ℕ) (own : Bool) (w : SalvageAction) → salvage_action removed subs fresh k s up ≡ w →
          Went (up ++ copy ∷ down) subs (above_after w up ++ (added_by_salvage w (record { number = k; source = s; own = own }) o ++ bare ∷ down))
          (subs ++ entries_for w k) (fresh_after w fresh)
      copy_goes removed own HasEntry is =
          subst (λ (es : List DebugSubstitution). Went (up ++ copy ∷ down) subs (up ++ bare ∷ down) es fresh) (sym (append-nil subs))
          (it_went (up ++ copy ∷ down) subs fresh (up ++ bare ∷ down) subs fresh r (le_refl fresh)
          (All-append (U fresh) up (bare ∷ down) under_up under_bare) r.in_entries (to_nowhere f above id source_end behind k up i o l down subs r.sound))
      copy_goes removed own GetsPhi is =
          subst (λ (es : List DebugSubstitution). Went (up ++ copy ∷ down) subs (up ++ phi_by_own own k s o ∷ bare ∷ down) es fresh) (sym (append-nil subs))
          (phi_goes own)
      copy_goes removed own (GetsEntry d p n) is =
          let e : IsEntered [] subs fresh k s up d p n = with_none removed subs fresh k s up d p n (entered removed subs fresh k s up d p n is) in
          let b : ℕ = fresh_after (GetsEntry d p n) fresh in
          let c : Counted fresh n b (numbered_at d n up) = counted subs fresh k s up d p n e under_up in
          let le : fresh ≤ b = c.least in
          let lt : n < b = c.number in
          it_went (up ++ copy ∷ down) subs fresh (numbered_at d n up ++ bare ∷ down) (subs ++ entry_for k n p ∷ []) b r le
          (All-append (U b) (numbered_at d n up) (bare ∷ down) c.under (items_more fresh b le (bare ∷ down) under_bare))
          (All-append (EntryUnder b) subs (entry_for k n p ∷ []) (entries_more fresh b le subs r.in_entries)
          (All-cons (EntryUnder b) (entry_for k n p) [] (omega (arith, under_copy, le), lt) (All-nil (EntryUnder b))))
          (to_code f above id source_end behind fresh k n p rd s d up i o l down subs r.sound row e
          (record { above = r.in_above; up = under_up; here = under_copy; down = under_down; behind = r.in_behind; entries = r.in_entries }))

  -- ---- by an index

  abbrev WentOn : SoFar → SoFar → Type 0
  WentOn a b = Went a.items a.subs b.items b.subs b.fresh

  itself : (a : SoFar) → Ready a.items a.subs a.fresh → WentOn a a
  itself a r = record { ready = r; follows = record { follows = λ src h. h; ends = λ src h w. w } }

  and_then : (a b c : SoFar) → WentOn a b → WentOn b c → WentOn a c
  and_then a b c x y = record {
    ready = y.ready;
    follows = record {
      follows = λ src h. y.follows.follows src (x.follows.follows src h);
      ends = λ src h w. y.follows.ends src (x.follows.follows src h) (x.follows.ends src h w);
    };
  }

  salvage_item : (removed : List ℕ) (at : ℕ) (a : SoFar) (x : Item) (c : Copied) → slice_get a.items at ≡ Some x → numbered_copy x.kind ≡ Some c →
      Ready a.items a.subs a.fresh → WentOn a (salvage_copy removed at a (Some c))
  salvage_item removed at a x c there is r =
      let s = split_at a.items at x there in
      let w = copy_of x.kind c is in
      let up : List Item = take at a.items in
      let down : List Item = drop (suc at) a.items in
      let copy : Item = item (Code w.code (Some c.number)) x.origin x.loc in
      let same : x ≡ copy = (λ j. item (w.is j) x.origin x.loc) in
      let whole : a.items ≡ up ++ copy ∷ down = s.whole ∙ ap (λ (y : Item). up ++ y ∷ down) same in
      let rest : drop at a.items ≡ copy ∷ down = s.behind ∙ ap (λ (y : Item). y ∷ down) same in
      let v : SalvageAction = salvage_action removed a.subs a.fresh c.number c.source up in
      let one = copy_goes c.number c.source w.target up w.code x.origin x.loc down a.subs a.fresh 0 w.row
      (subst (λ (xs : List Item). Ready xs a.subs a.fresh) whole r) removed c.own v refl in
      let made : above_after v up ++ (added_by_salvage v c x.origin ++ item (Code w.code None) x.origin x.loc ∷ down) ≡ salvaged_items v at c a.items =
      ap (λ (ys : List Item). above_after v up ++ salvaged_from v c ys) (sym rest) in
      subst (λ (ys : List Item). Went ys a.subs (salvaged_items v at c a.items) (a.subs ++ entries_for v c.number) (fresh_after v a.fresh)) (sym whole)
      (subst (λ (ys : List Item). Went (up ++ copy ∷ down) a.subs ys (a.subs ++ entries_for v c.number) (fresh_after v a.fresh)) made one)

  at_goes : (removed : List ℕ) (at : ℕ) (a : SoFar) (x : Option Item) → slice_get a.items at ≡ x → Ready a.items a.subs a.fresh →
      WentOn a (salvage_copy removed at a (copy_in x))
  at_goes removed at a None there r = itself a r
  at_goes removed at a (Some x) there r = by_copy (numbered_copy x.kind) refl where
    by_copy : (c : Option Copied) → numbered_copy x.kind ≡ c → WentOn a (salvage_copy removed at a c)
    by_copy None is = itself a r
    by_copy (Some c) is = salvage_item removed at a x c there is r

  at_index : (removed : List ℕ) (at : ℕ) (goes : Bool) (a : SoFar) → Ready a.items a.subs a.fresh → WentOn a (salvage_at removed at goes a)
  at_index removed at true a r = at_goes removed at a (slice_get a.items at) refl r
  at_index removed at false a r = itself a r

  pub all_down : (removed : List ℕ) (dead : List Bool) (n : ℕ) (a : SoFar) → Ready a.items a.subs a.fresh → WentOn a (salvage_down removed dead n a)
  all_down removed dead zero a r = itself a r
  all_down removed dead (suc n) a r =
      let goes : Bool = get_or dead n false in
      let one = at_index removed n goes a r in
      let b : SoFar = salvage_at removed n goes a in
      and_then a b (salvage_down removed dead n b) one (all_down removed dead n b one.ready)
