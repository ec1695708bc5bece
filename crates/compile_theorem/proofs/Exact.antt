-- The lists that are compiled of a function give each part of each variable exactly the places that are wanted at the entries of its machine
-- code: a list that a line of the variable names tells the wanted location, and a part of no listed variable is marked nowhere.
use Rattle.std.proofs.Common.{◌≡◌, ◌⊎◌, ℕ, zero, suc, ◌+◌, List, [], ◌∷◌, length, Option, Some, None, Bool, true, false, refl, sym, ap, ◌∙◌, subst, inl, inr}
use Rattle.std.proofs.Common.{arith}
use Rattle.std.specs.Prelude.{slice_get, All, Contains}
use Rattle.std.proofs.lemmas.List.Elements.{All-weaker}
use Rattle.std.specs.List.{list_any}
use Rattle.rv64_instr.specs.declared.place.Place.{Place}
use Rattle.mir_func.specs.declared.block.Block.{Block}
use Rattle.mir_func.specs.declared.debug_substitution.DebugSubstitution.{DebugSubstitution as Substitution}
use Rattle.mir_func.specs.declared.item.Item.{Item}
use Rattle.mir_func.specs.declared.position.Pos.{Pos}
use Rattle.mir_func.specs.declared.variable.VarId.{VarId}
use Rattle.mir_func.specs.Function.{Function}
use Rattle.mir_func.specs.Graph.{Program, Here, block_start, framed_program}
use Rattle.mir_func.specs.Parts.{Bytes}
use Rattle.mir_func.specs.Resolve.{resolve}
use Rattle.mir_func.specs.Sound.{AllItems}
use Rattle.mir_func.specs.Variables.{is_same_variable}
use Rattle.sem_mir.specs.PreferredLocation.{IsPreferredLocation, NoneIsPreferred}
use Rattle.listing_meaning.specs.sem_machine.Exact.{AreExact}
use Rattle.emit_code.specs.declared.code.EncodedInstruction.{EncodedInstruction}
use Rattle.emit_code.specs.Rule.{Layout, entries_of}
use Rattle.frame_rule.specs.Rule.{framed_of}
use Rattle.listing_meaning.proofs.machine_steps_proof.Points.{of_item}
use Rattle.dwarf_loclists.specs.declared.range.Range.{Range}
use Rattle.dwarf_loclists.specs.declared.range.Location.{Location}
use Rattle.dwarf_loclists.specs.Ranges.{location_in, whole_place, nth_piece}
use Rattle.dwarf_loclists.specs.Grammar.{IsSection, LocationAt}
use Rattle.dwarf_loclists.proofs.OneReading.{one_section}
use Rattle.listing_text.specs.declared.output.ListedVariable.{ListedVariable}
use Rattle.listing_text.specs.declared.output.ListedFunction.{ListedFunction}
use Rattle.listing_text.specs.declared.output.Output.{Output}
use Rattle.location_ranges.specs.Lists.{point_of, HasByte, AreRangesOf, AreListsOf}
use Rattle.compile_theorem.specs.OutputProperties.{GivesPart, Gives, variable_lines, variable_listed}
use Rattle.dwarf_unit.specs.Variables.{whole, variables_of_function}
use Rattle.compile_theorem.proofs.Framing.{marks_framed}
use Rattle.compile_theorem.proofs.Telling.{Tells, TellsWanted, location_tells}
use Rattle.compile_theorem.specs.Source.{MarksOneOf}
use Rattle.compile_theorem.proofs.Variables.{any_is, MarkIn, mark_in, numbered, unmarked}

-- ---- lists of a section

module _ (bytes : List ℕ) (lists : List (List Range)) (section : IsSection bytes lists) (k : ℕ) (ranges : List Range) (at : slice_get lists k ≡ Some ranges)
    (a : ℕ) where
  located : (l : Option Location) → LocationAt bytes k a l → l ≡ location_in ranges a
  located l x =
      let same : x.lists ≡ lists = one_section bytes x.lists lists x.section section in
      let both : Some x.ranges ≡ Some ranges = sym x.list ∙ ap (λ (ls : List (List Range)). slice_get ls k) same ∙ at in
      let one : x.ranges ≡ ranges = cc in
      x.found ∙ ap (λ (rs : List Range). location_in rs a) one

  stands : LocationAt bytes k a (location_in ranges a)
  stands = record { lists = lists; ranges = ranges; section = section; list = at; found = refl }

  pub given_tells : (b : Option Bytes) (place : Place) → GivesPart bytes k a b place → Tells (location_in ranges a) b place
  given_tells None place x = x.whole ∙ ap whole_place (located x.location x.located)
  given_tells (Some b) place (n, x) = (n, x.nth ∙ ap (λ (l : Option Location). nth_piece l n) (located x.location x.located))

  pub tells_given : (b : Option Bytes) (place : Place) → Tells (location_in ranges a) b place → GivesPart bytes k a b place
  tells_given None place is = record { location = location_in ranges a; located = stands; whole = is }
  tells_given (Some b) place (n, is) = (n, record { location = location_in ranges a; located = stands; nth = is })

-- ---- lines of variables

module _ (names : ℕ → List ℕ) where
  variable_at : (vs : List VarId) (j k : ℕ) (line : ListedVariable) → slice_get (variable_lines names j vs) k ≡ Some line →
      (slice_get vs k ≡ Some line.variable) × (line.list ≡ j + k)
  variable_at [] j k line e = absurd cc
  variable_at (x ∷ vs) j zero line e =
      let same : record { list = j; variable = x; name = names x.node } ≡ line = cc in
      let at : j ≡ j + 0 = omega arith in
      (ap (λ (l : ListedVariable). Some l.variable) same, sym (ap (λ (l : ListedVariable). l.list) same) ∙ at)
  variable_at (x ∷ vs) j (suc k) line e =
      let found = variable_at vs (suc j) k line e in
      let at : suc j + k ≡ j + suc k = omega arith in
      (found.0, found.1 ∙ at)

  line_at : (vs : List VarId) (j k : ℕ) (v : VarId) → slice_get vs k ≡ Some v → slice_get (variable_lines names j vs) k ≡ Some (variable_listed names (j + k) v)
  line_at [] j k v e = absurd cc
  line_at (x ∷ vs) j zero v e =
      let same : x ≡ v = cc in
      let at : j ≡ j + 0 = omega arith in
      ap (λ (y : VarId). Some (variable_listed names j y)) same ∙ ap (λ (n : ℕ). Some (variable_listed names n v)) at
  line_at (x ∷ vs) j (suc k) v e =
      let at : suc j + k ≡ j + suc k = omega arith in
      line_at vs (suc j) k v e ∙ ap (λ (n : ℕ). Some (variable_listed names n v)) at

list_there : {X Y : Type 0} (vs : List X) (lists : List Y) (k : ℕ) (v : X) → length lists ≡ length vs → slice_get vs k ≡ Some v →
    (l : Y) × (slice_get lists k ≡ Some l)
list_there [] lists k v each e = absurd cc
list_there (x ∷ vs) [] k v each e = absurd (omega arith)
list_there (x ∷ vs) (l ∷ lists) zero v each e = (l, refl)
list_there (x ∷ vs) (l ∷ lists) (suc k) v each e = list_there vs lists k v (omega (arith, each)) e

-- ---- one function

-- the byte at an address is one of an entry of this point
pub record IsByteOf (entries : List EncodedInstruction) (address : ℕ) (p : Pos) : Type 0 where
  pub entry : EncodedInstruction
  pub among : Contains entries entry
  pub byte : HasByte entry address
  pub point : point_of entry ≡ p

module _ (names : ℕ → List ℕ) (o : Output) (lists : List (List Range)) (section : IsSection o.loclists lists) (source now : Function) (subs : List Substitution)
    (marks : AllItems (λ i. MarksOneOf (variables_of_function source.blocks) i.kind) now.blocks)
    (first : ℕ) (l : Layout) (framed : l.framed ≡ framed_of now) (f : ListedFunction)
    (variables : f.variables ≡ variable_lines names first (variables_of_function source.blocks)) (own : List (List Range))
    (located : AreListsOf (framed_program l.framed.blocks (resolve subs)) (block_start 0) (entries_of l) (variables_of_function source.blocks) own)
    (numbers : (k : ℕ) (ranges : List Range) → slice_get own k ≡ Some ranges → slice_get lists (first + k) ≡ Some ranges) where
  abbrev g : Program
  g = framed_program l.framed.blocks (resolve subs)

  abbrev vs : List VarId
  vs = variables_of_function source.blocks

  -- the list of a variable
  record ListOf (v : VarId) : Type 0 where
    number : ℕ
    ranges : List Range
    named : slice_get vs number ≡ Some (whole v)
    at : slice_get lists (first + number) ≡ Some ranges
    are : AreRangesOf g (block_start 0) (entries_of l) (whole v) ranges

  list_at : (v : VarId) (k : ℕ) → slice_get vs k ≡ Some (whole v) → ListOf v
  list_at v k named =
      let own_list = list_there vs own k (whole v) located.for_all named in
      record {
        number = k;
        ranges = own_list.0;
        named = named;
        at = numbers k own_list.0 own_list.1;
        are = located.each k (whole v) own_list.0 named own_list.1;
      }

  -- what is given is told by a list of the variable
  record GivenBy (v : VarId) (a : ℕ) (place : Place) : Type 0 where
    list : ListOf v
    tells : Tells (location_in list.ranges a) v.fragment place

  given_by : (v : VarId) (a : ℕ) (place : Place) → Gives o f v a place → GivenBy v a place
  unfolding list_at
  given_by v a place x =
      let line = variable_at names vs first x.number x.line (ap (λ (ls : List ListedVariable). slice_get ls x.number) (sym variables) ∙ x.stands) in
      let list = list_at v x.number (line.0 ∙ ap Some x.named) in
      record {
        list = list;
        tells = given_tells o.loclists lists section (first + x.number) list.ranges list.at a v.fragment place
            (subst (λ (k : ℕ). GivesPart o.loclists k a v.fragment place) line.1 x.given);
      }

  gives : (v : VarId) (a : ℕ) (place : Place) (list : ListOf v) → Tells (location_in list.ranges a) v.fragment place → Gives o f v a place
  gives v a place list tells = record {
    number = list.number;
    line = variable_listed names (first + list.number) (whole v);
    stands = ap (λ (ls : List ListedVariable). slice_get ls list.number) variables ∙ line_at names vs first list.number (whole v) list.named;
    named = refl;
    given = tells_given o.loclists lists section (first + list.number) list.ranges list.at a v.fragment place tells;
  }

  told : (v : VarId) (a : ℕ) (p : Pos) → IsByteOf (entries_of l) a p → (list : ListOf v) →
      TellsWanted g (block_start 0) (whole v) p (location_in list.ranges a) v.fragment
  told v a p at list =
      subst (λ (q : Pos). TellsWanted g (block_start 0) (whole v) q (location_in list.ranges a) v.fragment) at.point
      (location_tells g (block_start 0) (whole v) (point_of at.entry) (location_in list.ranges a) v.fragment (list.are.inside at.entry at.among a at.byte))

  -- a variable is listed, or no part of it is wanted anywhere
  listed_or : (v : VarId) → ListOf v ⊎ ((p : Pos) → NoneIsPreferred g (block_start 0) v p)
  listed_or v = by_test (list_any (is_same_variable v) vs) refl where
    are_in : AllItems (λ i. MarkIn vs i.kind) now.blocks
    are_in =
        All-weaker (λ (b : Block). All (λ i. MarksOneOf vs i.kind) b.items) (λ (b : Block). All (λ i. MarkIn vs i.kind) b.items)
        (λ b all. All-weaker (λ (i : Item). MarksOneOf vs i.kind) (λ (i : Item). MarkIn vs i.kind) (λ i is. mark_in vs i.kind is) b.items all)
        now.blocks marks

    at_marks : (p : Pos) (i : Item) → g.fetch p ≡ Here i → MarkIn vs i.kind
    at_marks p i here =
        of_item l.framed (λ j. MarkIn vs j.kind)
        (subst (λ x. AllItems (λ j. MarkIn vs j.kind) x.blocks) (sym framed) (marks_framed now vs are_in)) p i here

    by_test : (b : Bool) → list_any (is_same_variable v) vs ≡ b → ListOf v ⊎ ((p : Pos) → NoneIsPreferred g (block_start 0) v p)
    by_test true e = let n = numbered source.blocks v (any_is vs v e) in inl (list_at v n.number n.stands)
    by_test false e = inr (λ p. unmarked g vs at_marks v e (block_start 0) p)

  wanted_given : (v : VarId) (a : ℕ) (p : Pos) → IsByteOf (entries_of l) a p → (place : Place) → IsPreferredLocation g (block_start 0) v p place →
      Gives o f v a place
  wanted_given v a p at place wanted = by_list (listed_or v) where
    by_list : ListOf v ⊎ ((q : Pos) → NoneIsPreferred g (block_start 0) v q) → Gives o f v a place
    by_list (inl list) = gives v a place list ((told v a p at list).wanted place wanted)
    by_list (inr none) = absurd (none p place wanted.named wanted.sits)

  given_wanted : (v : VarId) (a : ℕ) (p : Pos) → IsByteOf (entries_of l) a p → (place : Place) → Gives o f v a place →
      IsPreferredLocation g (block_start 0) v p place
  given_wanted v a p at place given = let x = given_by v a place given in (told v a p at x.list).told place x.tells

  none_wanted : (v : VarId) (a : ℕ) (p : Pos) → IsByteOf (entries_of l) a p → ((place : Place) → Gives o f v a place → ⊥) →
      NoneIsPreferred g (block_start 0) v p
  none_wanted v a p at source_end = by_list (listed_or v) where
    by_list : ListOf v ⊎ ((q : Pos) → NoneIsPreferred g (block_start 0) v q) → NoneIsPreferred g (block_start 0) v p
    by_list (inl list) = (told v a p at list).none (λ place tells. source_end place (gives v a place list tells))
    by_list (inr none) = none p

  nothing_told : (b : Option Bytes) (place : Place) → Tells None b place → ⊥
  nothing_told None place tells = cc
  nothing_told (Some b) place (n, tells) = cc

  pub exact_at_entries : AreExact g (block_start 0) (IsByteOf (entries_of l)) (Gives o f)
  exact_at_entries = record {
    gives = λ v a p at place. (given_wanted v a p at place, wanted_given v a p at place);
    gives_none = λ v a p at. (none_wanted v a p at, λ none place given. (let w = given_wanted v a p at place given in none place w.named w.sits));
    outside = λ v a off place given.
        let x = given_by v a place given in
        let nothing = x.list.are.outside a (λ e among byte. off (point_of e) (record { entry = e; among = among; byte = byte; point = refl })) in
        nothing_told v.fragment place (subst (λ (z : Option Location). Tells z v.fragment place) nothing x.tells);
  }
