-- What a list gives for a suspended frame has the value on every path and is kept, so it holds what it held at the call.
use Rattle.std.proofs.Common.{◌≡◌, ℕ, zero, suc, ◌%◌, ◌≤◌, List, [], ◌∷◌, length, arith, refl, sym, ◌∙◌, ap, subst, inl, inr, eq-eqb}
use Rattle.std.specs.Prelude.{Option, Some, None, Bool, true, false, cond, not, ◌||◌, nat_eq, Contains, slice_get, All}
use Rattle.std.specs.List.{list_any}
use Rattle.std.proofs.lemmas.Option.{slice_get_read}
use Rattle.std.proofs.lemmas.List.Elements.{All-nil, All-cons, All-head, All-tail, All-weaker}
use Rattle.rv64_instr.specs.declared.operand.Operand.{Operand}
use Rattle.rv64_instr.specs.declared.operand.Operand.TheVariants.{Outgoing}
use Rattle.rv64_instr.specs.declared.place.Place.{Place}
use Rattle.rv64_instr.specs.declared.place.Place.TheVariants.{Register, Slot, Const}
use Rattle.rv64_instr.specs.DefsAndUses.{caller_saved}
use Rattle.rv64_instr.specs.Row.{outgoing_words}
use Rattle.mir_func.specs.declared.debug_substitution.OperandPair.{OperandPair}
use Rattle.mir_func.specs.declared.item.Item.{Item}
use Rattle.mir_func.specs.declared.item.ItemKind.{ItemKind}
use Rattle.mir_func.specs.declared.item.ItemKind.TheVariants.{Code, Mark, Phi}
use Rattle.mir_func.specs.declared.position.Pos.{Pos}
use Rattle.mir_func.specs.declared.variable.VarId.{VarId}
use Rattle.mir_func.specs.Function.{Function, FramedFunction}
use Rattle.mir_func.specs.Graph.{Program, Fetch, Here, EndOfBlock, Outside, block_start, framed_program}
use Rattle.mir_func.specs.Limits.{MAX_FRAME}
use Rattle.mir_func.specs.Sound.{AllItems, SlotsIn, PassedIn}
use Rattle.mir_func.specs.SoundFrame.{slot_offsets, HasPhysical, IsFramed}
use Rattle.sem_mir.specs.PreferredLocation.{SitsIn}
use Rattle.emit_code.specs.declared.code.EncodedInstruction.{EncodedInstruction}
use Rattle.emit_code.specs.Laid.{StandFrom}
use Rattle.emit_code.specs.Rule.{entries_of}
use Rattle.emit_code.proofs.Stand.{stands}
use Rattle.sem_machine.specs.Image.{Image}
use Rattle.frame_rule.specs.Rule.{reach_of, framed_of}
use Rattle.machine_steps_proof.proofs.Calls.{apart_words}
use Rattle.machine_steps_proof.proofs.Points.{of_item}
use Rattle.machine_steps_proof.proofs.Slots.{slot_offset}
use Rattle.machine_proof.specs.Entries.{IsEntryAt}
use Rattle.machine_proof.specs.Followers.{IsFollower}
use Rattle.machine_proof.specs.LaidOut.{IsImageOfFunction}
use Rattle.machine_proof.specs.Lists.{GiveSitting}
use Rattle.frame_theorem.specs.Suspended.{IsKeptPlace}
use Rattle.frame_theorem.proofs.Lines.{framed}
use Rattle.frame_theorem.proofs.Suspended.{suspended_frames_hold}
use Rattle.dwarf_loclists.specs.declared.range.Location.{Location}
use Rattle.dwarf_loclists.specs.declared.range.Range.{Range}
use Rattle.dwarf_loclists.specs.Ranges.{location_in}
use Rattle.location_of_variable.specs.Groups.{part_of}
use Rattle.location_of_variable.specs.Gives.{GivesPart}
use Rattle.location_of_variable.proofs.Giving.{wanted_locations_give_parts}
use Rattle.location_ranges.specs.Lists.{point_of, HasByte}
use Rattle.location_ranges.proofs.Saying.{size_is}
use Rattle.kept_ranges.specs.Calls.{lookup_of, passed_by, passed_at, suspended_at, goes_from}
use Rattle.kept_ranges.specs.Kept.{IsKeptLocation}
use Rattle.kept_ranges.specs.Lists.{IsLocationIn, AreKeptListsOf}
use Rattle.kept_ranges.proofs.Entries.{one_entry}
use Rattle.kept_ranges.proofs.Telling.{from_lookup, lookup_within, sized}
use Rattle.kept_theorem.specs.Backtrace.{PassesAt, GivesSuspended, SuspendedListsHold}

-- ---- entries of an address

module _ (base end : ℕ) (entries : List EncodedInstruction) (stand : StandFrom base entries end) where
  entry_of : (e : EncodedInstruction) (c : Contains entries e) → slice_get entries c.0 ≡ Some e
  entry_of e (j, within, same) = slice_get_read entries (length entries) j e refl within (sym same)

  has_first : (e : EncodedInstruction) (a : ℕ) → Contains entries e → e.address ≡ a → HasByte e a
  has_first e a c begins =
      let some = size_is base end entries c.0 e stand (entry_of e c) in
      (omega (arith, begins), omega (arith, begins, some))

  same_entry : (e d : EncodedInstruction) (a : ℕ) → Contains entries e → Contains entries d → e.address ≡ a → d.address ≡ a → e ≡ d
  same_entry e d a c f begins starts =
      one_entry base end entries stand c.0 f.0 e d (entry_of e c) (entry_of d f) a (has_first e a c begins) (has_first d a f starts)

  has_lookup : (e : EncodedInstruction) → Contains entries e → HasByte e (lookup_of e)
  has_lookup e c =
      let w = lookup_within e.address e.size e.call (sized base end entries c.0 e stand (entry_of e c)) in
      let lt = w.0 in
      (omega (arith, lt), w.1)

-- ---- what lists give

module _ (g : Program) (v : VarId) (p : Pos) (o : Option Location) (place : Place) (given : GivesPart o v.fragment place) where
  located_sits : (q : Option (List ℕ)) → IsLocationIn g (block_start 0) (part_of v None) p q o → SitsIn g (block_start 0) v place p
  located_sits None is = (((wanted_locations_give_parts g (block_start 0) (part_of v None) p o is v.fragment).gives place).0 given).sits
  located_sits (Some passed) is = (((is v.fragment).gives place).0 given).sits

  located_kept : (q : Option (List ℕ)) (passed : List ℕ) → q ≡ Some passed → IsLocationIn g (block_start 0) (part_of v None) p q o →
      IsKeptLocation g (block_start 0) passed v p place
  located_kept None passed e is = absurd (let no : None ≡ Some passed = e in cc)
  located_kept (Some other) passed e is =
      let same : other ≡ passed = cc in
      subst (λ (z : List ℕ). IsKeptLocation g (block_start 0) z v p place) same (((is v.fragment).gives place).0 given)

module _ (g : Program) (base end : ℕ) (entries : List EncodedInstruction) (stand : StandFrom base entries end) (variables : List VarId)
    (lists : List (List Range)) (are : AreKeptListsOf g (block_start 0) entries variables lists) where
  location : (v : VarId) (a : ℕ) (place : Place) (given : GivesSuspended entries variables lists v a place) →
      IsLocationIn g (block_start 0) (part_of v None) (point_of given.entry) (suspended_at g given.entry (lookup_of given.entry))
      (location_in given.ranges (lookup_of given.entry))
  location v a place given =
      (are.each given.number (part_of v None) given.ranges given.named given.listed).inside given.entry given.among (lookup_of given.entry)
      (has_lookup base end entries stand given.entry given.among)

  sits : (v : VarId) (a : ℕ) (place : Place) (given : GivesSuspended entries variables lists v a place) →
      SitsIn g (block_start 0) v place (point_of given.entry)
  sits v a place given =
      located_sits g v (point_of given.entry) (location_in given.ranges (lookup_of given.entry)) place given.gives
      (suspended_at g given.entry (lookup_of given.entry)) (location v a place given)

  kept : (v : VarId) (a : ℕ) (place : Place) (passed : List ℕ) → PassesAt g entries a passed → (given : GivesSuspended entries variables lists v a place) →
      IsKeptLocation g (block_start 0) passed v (point_of given.entry) place
  kept v a place passed passes given =
      let same = same_entry base end entries stand passes.entry given.entry a passes.among given.among passes.begins given.begins in
      let is : suspended_at g given.entry (lookup_of given.entry) ≡ Some passed =
      from_lookup g given.entry (lookup_of given.entry) (omega arith)
      ∙ subst (λ (e : EncodedInstruction). passed_at (g.fetch (point_of e)) ≡ Some passed) same passes.passes in
      located_kept g v (point_of given.entry) (location_in given.ranges (lookup_of given.entry)) place given.gives
      (suspended_at g given.entry (lookup_of given.entry)) passed is (location v a place given)

-- ---- what is kept

or_true : (b : Bool) → (b || true) ≡ true
or_true true = refl
or_true false = refl

any_in : (xs : List ℕ) (r : ℕ) → Contains xs r → list_any (nat_eq r) xs ≡ true
any_in [] r (k, lt, e) = absurd (omega (arith, lt))
any_in (x ∷ xs) r (zero, lt, e) = ap (λ (b : Bool). b || list_any (nat_eq r) xs) (eq-eqb r x (sym e))
any_in (x ∷ xs) r (suc k, lt, e) = ap (λ (b : Bool). nat_eq r x || b) (any_in xs r (k, omega (arith, lt), e)) ∙ or_true (nat_eq r x)

not_false : (b : Bool) → not b ≡ true → b ≡ false
not_false true e = sym e
not_false false e = refl

-- slots that are passed are the frame's
words_in : (slots : List ℕ) (os : List Operand) → All (PassedIn slots) os → All (Contains slots) (outgoing_words os)
words_in slots [] all = All-nil (Contains slots)
words_in slots (Outgoing n ∷ os) all =
    All-cons (Contains slots) n (outgoing_words os) (All-head (PassedIn slots) (Outgoing n) os all)
    (words_in slots os (All-tail (PassedIn slots) (Outgoing n) os all))
words_in slots (o ∷ os) all = words_in slots os (All-tail (PassedIn slots) o os all)

module _ (f : FramedFunction) (framed : IsFramed f) (resolve : OperandPair → Option OperandPair) where
  abbrev g : Program
  g = framed_program f.blocks resolve

  passed_aligned : (p : Pos) (passed : List ℕ) → passed_at (g.fetch p) ≡ Some passed → All (λ n. n % 8 ≡ 0) passed
  passed_aligned p passed e = by_fetch (g.fetch p) refl e where
    aligned : (n : ℕ) → Contains (slot_offsets f) n → n % 8 ≡ 0
    aligned n (k, lt, same) = subst (λ (m : ℕ). m % 8 ≡ 0) same (framed.offsets k n lt).0

    by_goes : (b : Bool) (words : List ℕ) → All (Contains (slot_offsets f)) words → cond b (Some words) None ≡ Some passed → All (λ n. n % 8 ≡ 0) passed
    by_goes true words all is =
        let same : words ≡ passed = cc in
        subst (λ (ns : List ℕ). All (λ n. n % 8 ≡ 0) ns) same
        (All-weaker (Contains (slot_offsets f)) (λ (n : ℕ). n % 8 ≡ 0) aligned words all)
    by_goes false words all is = absurd (let no : None ≡ Some passed = is in cc)

    by_kind : (i : Item) (kind : ItemKind) → i.kind ≡ kind → SlotsIn (slot_offsets f) kind → passed_by kind ≡ Some passed → All (λ n. n % 8 ≡ 0) passed
    by_kind i (Code c j) is slots passes =
        by_goes (goes_from (Code c j)) (outgoing_words c.operands) (words_in (slot_offsets f) c.operands slots.1) passes
    by_kind i (Mark v m) is slots passes = absurd (let no : None ≡ Some passed = passes in cc)
    by_kind i (Phi r j) is slots passes = absurd (let no : None ≡ Some passed = passes in cc)

    by_fetch : (x : Fetch) → g.fetch p ≡ x → passed_at x ≡ Some passed → All (λ n. n % 8 ≡ 0) passed
    by_fetch (Here i) here passes =
        by_kind i i.kind refl (of_item f (λ (x : Item). SlotsIn (slot_offsets f) x.kind) framed.slots p i here) passes
    by_fetch (EndOfBlock k n) here passes = absurd (let no : None ≡ Some passed = passes in cc)
    by_fetch Outside here passes = absurd (let no : None ≡ Some passed = passes in cc)

  kept_place : (v : VarId) (p : Pos) (passed : List ℕ) → All (λ n. n % 8 ≡ 0) passed → (place : Place) →
      IsKeptLocation g (block_start 0) passed v p place → IsKeptPlace passed place
  kept_place v p passed aligned (Register r) kept = λ c. (let on = any_in caller_saved r c in
      let off = not_false (list_any (nat_eq r) caller_saved) kept.kept in
      let no : true ≡ false = sym on ∙ off in cc)
  kept_place v p passed aligned (Slot o) kept = λ j lt.
      let reached = kept.sits.reached in
      let token = kept.sits.same reached.0 reached.1 reached.2 in
      let offset = slot_offset f framed resolve reached.2 o token.0 token.2 in
      apart_words passed o j aligned (not_false (list_any (nat_eq o) passed) kept.kept) offset.0 lt
  kept_place v p passed aligned (Const c) kept = tt

-- ---- the law

module _ (source f : Function) (resolve fresolve : OperandPair → Option OperandPair) (image : Image) (h : IsFollower source f resolve fresolve)
    (physical : AllItems (λ i. HasPhysical i.kind) f.blocks) (small : reach_of f ≤ MAX_FRAME) (is : IsImageOfFunction f image) (variables : List VarId)
    (lists : List (List Range))
    (are : AreKeptListsOf (framed_program (framed_of f).blocks fresolve) (block_start 0) (entries_of is.layout) variables lists) where
  sitting : GiveSitting (framed_program (framed_of f).blocks fresolve) (IsEntryAt is.layout) (GivesSuspended (entries_of is.layout) variables lists)
  sitting v a place given p at =
      let same = same_entry is.layout.base _ (entries_of is.layout) (stands is.layout) given.entry at.entry a given.among at.among given.begins at.begins in
      let point : point_of given.entry ≡ p = ap point_of same ∙ at.point in
      subst (λ (q : Pos). SitsIn (framed_program (framed_of f).blocks fresolve) (block_start 0) v place q) point
      (sits (framed_program (framed_of f).blocks fresolve) is.layout.base _ (entries_of is.layout) (stands is.layout) variables lists are v a place given)

  stays : (a : ℕ) (passed : List ℕ) → PassesAt (framed_program (framed_of f).blocks fresolve) (entries_of is.layout) a passed → (v : VarId) (place : Place) →
      GivesSuspended (entries_of is.layout) variables lists v a place → IsKeptPlace passed place
  stays a passed passes v place given =
      let is_framed = framed source f resolve fresolve image h physical small is in
      kept_place (framed_of f) is_framed fresolve v (point_of given.entry) passed
      (passed_aligned (framed_of f) is_framed fresolve (point_of passes.entry) passed passes.passes) place
      (kept (framed_program (framed_of f).blocks fresolve) is.layout.base _ (entries_of is.layout) (stands is.layout) variables lists are v a place passed passes
      given)

pub suspended_lists_hold : SuspendedListsHold
suspended_lists_hold source f resolve fresolve image h physical small is variables lists are s0 starts m s since l along line passed passes k keeps =
    elim (suspended_frames_hold (GivesSuspended (entries_of is.layout) variables lists) source f resolve fresolve image h physical small is
    (sitting source f resolve fresolve image h physical small is variables lists are) s0 starts m s since l along line passed k keeps) [
      | inl held ↦ inl (
        held.0,
        held.1,
        λ v place given.
            held.2 v place given (stays source f resolve fresolve image h physical small is variables lists are m.counter passed passes v place given),
      )
      | inr fails ↦ inr fails
    ]
