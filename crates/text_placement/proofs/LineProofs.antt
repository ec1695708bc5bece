-- Lines of code at their places.
use Rattle.std.specs.Prelude.{All, IsSome, Option, None, slice_index}
use Rattle.std.specs.List.{AllByRecursion}
use Rattle.std.proofs.Common.{◌≡◌, ℕ, ◌+◌, ◌-◌, ◌%◌, ◌^◌, ◌≤◌, ◌<◌, ◌⊎◌, inl, inr, List, [], ◌∷◌, ◌++◌, length, Some, arith, ap, sym, ◌∙◌, refl, subst}
use Rattle.std.proofs.Common.{append_assoc}
use Rattle.std.proofs.lemmas.List.Elements.{All-from_recursion, recursion_from_All}
use Rattle.rv64_instr.specs.declared.symbol.Half.{Half}
use Rattle.rv64_instr.specs.declared.symbol.LinkedAddress.{LinkedAddress}
use Rattle.rv64_instr.specs.declared.symbol.Symbol.{Symbol}
use Rattle.rv64_instr.specs.declared.symbol.Symbol.TheVariants.{Global}
use Rattle.rv64_instr.specs.Arithmetic.{word}
use Rattle.rv64_instr.specs.LocationEffects.{part_named}
use Rattle.rv64_instr.specs.Row.{Row, Calls, Returns, Callee, Way, Back, Tail, Never}
use Rattle.rv64_instr.specs.View.{Class, class_of}
use Rattle.rv64_word.specs.Linked.{linked_by, linked_word}
use Rattle.sem_machine.specs.Image.{word_at}
use Rattle.elf_object.specs.declared.relocations.Relocation.{Relocation}
use Rattle.elf_relocation.specs.Kinds.{kind_of}
use Rattle.elf_relocation.specs.Applied.{size_by, size_of, target_of, one_applied, applied, field_of, IsApplicable, IsApart, AreApart, IsInRange}
use Rattle.elf_relocation.proofs.FieldLemmas.{kind_back}
use Rattle.elf_relocation.proofs.AppliedLemmas.{fields_filled}
use Rattle.rv64_relocation.specs.Code.{half_kind, kind_by}
use Rattle.rv64_relocation.proofs.Words.{half_size, linked_is}
use Rattle.text_placement.specs.Goes.{Goes, word_field, CALL_JUMP, CALL_UPPER, TAIL_JUMP, TAIL_UPPER}
use Rattle.text_placement.specs.Placed.{SymbolPlaces, environment, PlacedLine, row_at, site_name, half_relocation, site_relocation, relocations_by}
use Rattle.text_placement.specs.Placed.{line_relocations, text_relocations, line_size, Lie, Site, CALL_SITE, TAIL_SITE, way_site, site_of}
use Rattle.text_placement.specs.Placed.{IsPlacedLine, HasNumber, NamesFunctions, AreLines}
use Rattle.text_placement.proofs.Steps.{call_goes, tail_goes}
use Rattle.text_placement.proofs.PlacedText.{word_after, words_stay, site_after, ranged, behind}

-- ---- relocations of a list

all_both : (P : Relocation → Type 0) (x y : List Relocation) → AllByRecursion P x → AllByRecursion P y → AllByRecursion P (x ++ y)
all_both P [] y left right = right
all_both P (r ∷ x) y left right = (left.0, all_both P x y left.1 right)

all_right : (P : Relocation → Type 0) (x y : List Relocation) → AllByRecursion P (x ++ y) → AllByRecursion P y
all_right P [] y all = all
all_right P (r ∷ x) y all = all_right P x y all.1

-- what holds of all holds of one among them
at_one : (P : Relocation → Type 0) (whole before rest : List Relocation) (r : Relocation) → whole ≡ before ++ (r ∷ rest) → All P whole → P r
at_one P whole before rest r e all =
    let these : All P (before ++ (r ∷ rest)) = subst (All P) e all in
    let behind_it = all_right P before (r ∷ rest) (recursion_from_All P (before ++ (r ∷ rest)) these) in behind_it.0

-- a field is in these bytes
abbrev IsIn : (from to : ℕ) → Relocation → Type 0
IsIn a b r = (a ≤ r.offset) × (r.offset + size_of r ≤ b)

later : (a m b : ℕ) (x : List Relocation) → a ≤ m → AllByRecursion (IsIn m b) x → AllByRecursion (IsIn a b) x
later a m b [] le is = tt
later a m b (r ∷ x) le is = ((omega (arith, le, is.0.0), is.0.1), later a m b x le is.1)

sooner : (a m b : ℕ) (x : List Relocation) → m ≤ b → AllByRecursion (IsIn a m) x → AllByRecursion (IsIn a b) x
sooner a m b [] le is = tt
sooner a m b (r ∷ x) le is = ((is.0.0, omega (arith, le, is.0.1)), sooner a m b x le is.1)

-- ---- the relocations of a line

size_half : (p : SymbolPlaces) (a : ℕ) (c : Class) (h : Half × LinkedAddress) → size_of (half_relocation p a c h) ≡ 4
size_half p a c h = ap size_by (kind_back (half_kind h.0 c)) ∙ half_size h.0 c

one_in : (p : SymbolPlaces) (a : ℕ) (c : Class) (part : Option (Half × LinkedAddress)) (site : Option (List ℕ))
    → AllByRecursion (IsIn a (a + line_size site)) (relocations_by p a c part site)
one_in p a c (Some h) None = ((omega arith, omega (arith, size_half p a c h)), tt)
one_in p a c (Some h) (Some name) = ((omega arith, omega (arith, size_half p a c h)), tt)
one_in p a c None (Some name) = ((omega arith, omega arith), tt)
one_in p a c None None = tt

one_known : (p : SymbolPlaces) (a : ℕ) (c : Class) (part : Option (Half × LinkedAddress)) (site : Option (List ℕ))
    → AllByRecursion (λ (r : Relocation). IsSome (kind_of r.relocation_type)) (relocations_by p a c part site)
one_known p a c (Some h) site = (subst (λ o. IsSome o) (sym (kind_back (half_kind h.0 c))) refl, tt)
one_known p a c None (Some name) = (refl, tt)
one_known p a c None None = tt

none_apart : (r : Relocation) → All (IsApart r) []
none_apart r = All-from_recursion (IsApart r) [] tt

one_apart : (p : SymbolPlaces) (a : ℕ) (c : Class) (part : Option (Half × LinkedAddress)) (site : Option (List ℕ)) → AreApart (relocations_by p a c part site)
one_apart p a c (Some h) site = (none_apart (half_relocation p a c h), tt)
one_apart p a c None (Some name) = (none_apart (site_relocation p a name), tt)
one_apart p a c None None = tt

-- ---- those of lines one after the other

line_in : (x : PlacedLine) (a : ℕ) → x.line.address ≡ a → AllByRecursion (IsIn a (a + line_size (site_name (row_at x)))) (line_relocations x)
line_in x a e =
    subst (λ (n : ℕ). AllByRecursion (IsIn n (n + line_size (site_name (row_at x)))) (line_relocations x)) e
    (one_in x.places x.line.address (class_of (row_at x)) (part_named (row_at x)) (site_name (row_at x)))

lie_le : (a : ℕ) (lines : List PlacedLine) (b : ℕ) → Lie a lines b → a ≤ b
lie_le a [] b e = omega (arith, e)
lie_le a (x ∷ rest) b h = let more = lie_le (a + line_size (site_name (row_at x))) rest b h.1 in omega (arith, more)

text_in : (a : ℕ) (lines : List PlacedLine) (b : ℕ) → Lie a lines b → AllByRecursion (IsIn a b) (text_relocations lines)
text_in a [] b e = tt
text_in a (x ∷ rest) b h =
    let m : ℕ = a + line_size (site_name (row_at x)) in
    all_both (IsIn a b) (line_relocations x) (text_relocations rest)
    (sooner a m b (line_relocations x) (lie_le m rest b h.1) (line_in x a h.0)) (later a m b (text_relocations rest) (omega arith) (text_in m rest b h.1))

text_known : (lines : List PlacedLine) → AllByRecursion (λ (r : Relocation). IsSome (kind_of r.relocation_type)) (text_relocations lines)
text_known [] = tt
text_known (x ∷ rest) =
    all_both (λ (r : Relocation). IsSome (kind_of r.relocation_type)) (line_relocations x) (text_relocations rest)
    (one_known x.places x.line.address (class_of (row_at x)) (part_named (row_at x)) (site_name (row_at x))) (text_known rest)

apart_from_all : (r : Relocation) (m b : ℕ) (y : List Relocation) → r.offset + size_of r ≤ m → AllByRecursion (IsIn m b) y → AllByRecursion (IsApart r) y
apart_from_all r m b [] le is = tt
apart_from_all r m b (q ∷ y) le is = (inl (omega (arith, le, is.0.0)), apart_from_all r m b y le is.1)

apart_both : (a m b : ℕ) (x y : List Relocation) → AreApart x → AreApart y → AllByRecursion (IsIn a m) x → AllByRecursion (IsIn m b) y → AreApart (x ++ y)
apart_both a m b [] y left right in_x in_y = right
apart_both a m b (r ∷ x) y left right in_x in_y = (
  All-from_recursion (IsApart r) (x ++ y)
      (all_both (IsApart r) x y (recursion_from_All (IsApart r) x left.0) (apart_from_all r m b y in_x.0.1 in_y)),
  apart_both a m b x y left.1 right in_x.1 in_y,
)

text_apart : (a : ℕ) (lines : List PlacedLine) (b : ℕ) → Lie a lines b → AreApart (text_relocations lines)
text_apart a [] b e = tt
text_apart a (x ∷ rest) b h =
    let m : ℕ = a + line_size (site_name (row_at x)) in
    apart_both a m b (line_relocations x) (text_relocations rest)
    (one_apart x.places x.line.address (class_of (row_at x)) (part_named (row_at x)) (site_name (row_at x))) (text_apart m rest b h.1)
    (line_in x a h.0) (text_in m rest b h.1)

can_be : (total count : ℕ) (x : List Relocation) → AllByRecursion (λ (r : Relocation). IsSome (kind_of r.relocation_type)) x
    → AllByRecursion (HasNumber count) x → AllByRecursion (IsIn 0 total) x → AllByRecursion (IsApplicable total count) x
can_be total count [] known has is = tt
can_be total count (r ∷ x) known has is = (
  record { kind = known.0; some = has.0.0; symbol = has.0.1; within = is.0.1 },
  can_be total count x known.1 has.1 is.1,
)

text_applicable : (base : ℕ) (addresses text : List ℕ) (lines : List PlacedLine) → AreLines base addresses text lines
    → All (IsApplicable (length text) (length addresses)) (text_relocations lines)
text_applicable base addresses text lines are =
    All-from_recursion (IsApplicable (length text) (length addresses)) (text_relocations lines)
    (can_be (length text) (length addresses) (text_relocations lines) (text_known lines)
    (recursion_from_All (HasNumber (length addresses)) (text_relocations lines) are.numbers) (text_in 0 lines (length text) are.lie))

-- ---- one line

before_word : (a : ℕ) (x : List Relocation) → AllByRecursion (IsIn 0 a) x → AllByRecursion (IsApart (word_field a)) x
before_word a [] is = tt
before_word a (r ∷ x) is = (inr is.0.1, before_word a x is.1)

behind_word : (a b : ℕ) (x : List Relocation) → AllByRecursion (IsIn (a + 4) b) x → AllByRecursion (IsApart (word_field a)) x
behind_word a b [] is = tt
behind_word a b (r ∷ x) is = (inl is.0.0, behind_word a b x is.1)

no_name : (name : List ℕ) → None ≡ Some name → ⊥
no_name name e = let f : ⊥ = cc in f

-- code that goes to a function has no half of an address
site_alone : (row : Row) (name : List ℕ) → site_name row ≡ Some name → part_named row ≡ None
site_alone (Calls call) name e = refl
site_alone (Returns ending) name e = refl
site_alone _ name e = absurd (no_name name e)

way_either : (way : Way Callee) → (way_site way ≡ CALL_SITE) ⊎ (way_site way ≡ TAIL_SITE)
way_either Back = inl refl
way_either (Tail callee) = inr refl
way_either (Never callee) = inl refl

site_either : (row : Row) → (site_of row ≡ CALL_SITE) ⊎ (site_of row ≡ TAIL_SITE)
site_either (Returns ending) = way_either ending.way
site_either _ = inl refl

-- the words of a site go to a target
abbrev Going : (text bytes : List ℕ) (base a target : ℕ) → Site → Type 0
Going text bytes base a target s =
    word_at text a ≡ Some s.upper → word_at text (a + 4) ≡ Some s.jump → Goes bytes base (base + a) target s.scratch s.link

module _ (base : ℕ) (addresses text : List ℕ) (whole : List Relocation) (can : All (IsApplicable (length text) (length addresses)) whole)
    (apart : AreApart whole) (fits : base + length text < 2 ^ 64) (addresses_fit : (k : ℕ) → slice_index addresses k < 2 ^ 64) where
  abbrev bytes : List ℕ
  bytes = applied base addresses whole text

  can_one : (before rest : List Relocation) (r : Relocation) → whole ≡ before ++ (r ∷ rest) → IsApplicable (length text) (length addresses) r
  can_one before rest r e = at_one (IsApplicable (length text) (length addresses)) whole before rest r e can

  alike : (before rest : List Relocation) (r : Relocation) → whole ≡ before ++ (r ∷ rest) → field_of r bytes ≡ field_of r (one_applied base addresses r text)
  alike before rest r e =
      at_one (λ (q : Relocation). field_of q bytes ≡ field_of q (one_applied base addresses q text)) whole before rest r e
      (fields_filled base addresses whole text can apart)

  -- a word with a half of an address
  half_word : (before rest : List Relocation) (p : SymbolPlaces) (a : ℕ) (row : Row) (h : Half × LinkedAddress) (w : ℕ)
      → whole ≡ before ++ (half_relocation p a (class_of row) h ∷ rest) → part_named row ≡ Some h → word_at text a ≡ Some w
      → word_at bytes a ≡ Some (linked_word (environment p addresses) row w)
  half_word before rest p a row h w e named here =
      let r : Relocation = half_relocation p a (class_of row) h in
      let env : Symbol → ℕ = environment p addresses in
      word_after base addresses r text bytes (length addresses) (can_one before rest r e) (alike before rest r e) env row h.0 h.1
      (half_kind h.0 (class_of row)) w named (ap (kind_by (class_of row)) named) refl
      (summed (target_of addresses r) (word h.1.addend) (p.behind h.1.symbol) ∙ sym (linked_is env h.1)) here
    where
      summed : (x y z : ℕ) → (x + (y + z) % 2 ^ 64) % 2 ^ 64 ≡ ((x + z) % 2 ^ 64 + y) % 2 ^ 64
      summed x y z = omega arith

  -- the two words of a site
  site_goes : (before rest : List Relocation) (p : SymbolPlaces) (a : ℕ) (name : List ℕ) → whole ≡ before ++ (site_relocation p a name ∷ rest)
      → p.behind (Global name) ≡ 0 → IsInRange base addresses (site_relocation p a name) → (s : Site) → (s ≡ CALL_SITE) ⊎ (s ≡ TAIL_SITE)
      → Going text bytes base a (environment p addresses (Global name)) s
  site_goes before rest p a name e own reach s either =
      subst (λ (n : ℕ). Going text bytes base a n s) (target_is (target_of addresses r) (p.behind (Global name)) own (addresses_fit (r.symbol - 1))) (by either)
    where
      r : Relocation
      r = site_relocation p a name

      target_is : (x z : ℕ) → z ≡ 0 → x < 2 ^ 64 → x ≡ (x + z) % 2 ^ 64
      target_is x z none low = omega (arith, none, low)

      call : Going text bytes base a (target_of addresses r) CALL_SITE
      call one two =
          let words = site_after base addresses r text bytes (length addresses) CALL_UPPER CALL_JUMP (can_one before rest r e)
          (alike before rest r e) refl refl one two in
          call_goes bytes base a (target_of addresses r) (ranged base addresses r refl refl reach) (addresses_fit (r.symbol - 1))
          (behind base r text (length addresses) refl (can_one before rest r e) fits) words.upper words.lower

      tail : Going text bytes base a (target_of addresses r) TAIL_SITE
      tail one two =
          let words = site_after base addresses r text bytes (length addresses) TAIL_UPPER TAIL_JUMP (can_one before rest r e)
          (alike before rest r e) refl refl one two in
          tail_goes bytes base a (target_of addresses r) (ranged base addresses r refl refl reach) (addresses_fit (r.symbol - 1))
          (behind base r text (length addresses) refl (can_one before rest r e) fits) words.upper words.lower

      by : (s ≡ CALL_SITE) ⊎ (s ≡ TAIL_SITE) → Going text bytes base a (target_of addresses r) s
      by (inl is) = subst (Going text bytes base a (target_of addresses r)) (sym is) call
      by (inr is) = subst (Going text bytes base a (target_of addresses r)) (sym is) tail

  line_placed : (before rest : List Relocation) (x : PlacedLine) (b : ℕ) → whole ≡ before ++ (line_relocations x ++ rest)
      → AllByRecursion (IsIn 0 x.line.address) before → AllByRecursion (IsIn (x.line.address + line_size (site_name (row_at x))) b) rest
      → NamesFunctions x → IsPlacedLine base addresses text bytes x
  line_placed before rest x b e in_before in_rest own = record {
    words = λ none w here. by_part none w here (part_named (row_at x)) refl;
    sites = λ name named reach one two.
        site_goes before rest x.places x.line.address name
        (e ∙ ap (λ (rs : List Relocation). before ++ (rs ++ rest)) (
        ap (λ o. relocations_by x.places x.line.address (class_of (row_at x)) o (site_name (row_at x))) (site_alone (row_at x) name named)
        ∙ ap (relocations_by x.places x.line.address (class_of (row_at x)) None) named))
        (own name) reach (site_of (row_at x)) (site_either (row_at x)) one two;
  }
    where
      by_part : site_name (row_at x) ≡ None → (w : ℕ) → word_at text x.line.address ≡ Some w → (part : Option (Half × LinkedAddress))
          → part_named (row_at x) ≡ part → word_at bytes x.line.address ≡ Some (linked_word (environment x.places addresses) (row_at x) w)
      by_part none w here None named =
          let a : ℕ = x.line.address in
          let c : Class = class_of (row_at x) in
          let no_relocation : line_relocations x ≡ [] =
          ap (λ o. relocations_by x.places a c o (site_name (row_at x))) named ∙ ap (relocations_by x.places a c None) none in
          let both : whole ≡ before ++ rest = e ∙ ap (λ (rs : List Relocation). before ++ (rs ++ rest)) no_relocation in
          let four : AllByRecursion (IsIn (a + 4) b) rest = subst (λ s. AllByRecursion (IsIn (a + line_size s) b) rest) none in_rest in
          let beside : All (IsApart (word_field a)) whole =
          subst (All (IsApart (word_field a))) (sym both) (All-from_recursion (IsApart (word_field a)) (before ++ rest)
          (all_both (IsApart (word_field a)) before rest (before_word a before in_before) (behind_word a b rest four))) in
          words_stay base addresses whole text a can beside ∙ here
          ∙ ap (λ (n : ℕ). Some n) (sym (ap (λ q. linked_by (environment x.places addresses) c q w) named))
      by_part none w here (Some h) named =
          half_word before rest x.places x.line.address (row_at x) h w
          (e ∙ ap (λ (rs : List Relocation). before ++ (rs ++ rest))
          (ap (λ o. relocations_by x.places x.line.address (class_of (row_at x)) o (site_name (row_at x))) named)) named here

  -- ---- all of them

  all_placed : (lines : List PlacedLine) (before : List Relocation) (a b : ℕ) → whole ≡ before ++ text_relocations lines → Lie a lines b
      → AllByRecursion (IsIn 0 a) before → AllByRecursion NamesFunctions lines → AllByRecursion (IsPlacedLine base addresses text bytes) lines
  all_placed [] before a b e lie in_before own = tt
  all_placed (x ∷ rest) before a b e lie in_before own =
      let size : ℕ = line_size (site_name (row_at x)) in
      let here : x.line.address ≡ a = lie.0 in (
        line_placed before (text_relocations rest) x b e (subst (λ (n : ℕ). AllByRecursion (IsIn 0 n) before) (sym here) in_before)
            (subst (λ (n : ℕ). AllByRecursion (IsIn (n + size) b) (text_relocations rest)) (sym here) (text_in (a + size) rest b lie.1)) own.0,
        all_placed rest (before ++ line_relocations x) (a + size) b
            (e ∙ sym (append_assoc before (line_relocations x) (text_relocations rest))) lie.1
            (all_both (IsIn 0 (a + size)) before (line_relocations x) (sooner 0 a (a + size) before (omega arith) in_before)
            (later 0 a (a + size) (line_relocations x) (omega arith) (line_in x a here))) own.1,
      )

pub lines_placed : (base : ℕ) (addresses text : List ℕ) (lines : List PlacedLine) → AreLines base addresses text lines
    → All (IsPlacedLine base addresses text (applied base addresses (text_relocations lines) text)) lines
lines_placed base addresses text lines are =
    All-from_recursion (IsPlacedLine base addresses text (applied base addresses (text_relocations lines) text)) lines
    (all_placed base addresses text (text_relocations lines) (text_applicable base addresses text lines are)
    (text_apart 0 lines (length text) are.lie) are.fits are.addresses_fit lines [] 0 (length text) refl are.lie tt
    (recursion_from_All NamesFunctions lines are.names))
