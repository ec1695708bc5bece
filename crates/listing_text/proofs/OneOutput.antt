-- A text shows at most one output.
use Rattle.std.specs.Prelude.{Bool, true, false, nat_eq, nat_lt, codes, All, IfSome}
use Rattle.std.specs.List.{flat_map}
use Rattle.std.proofs.Common.{◌≡◌, ℕ, ◌<◌, ◌||◌, List, [], ◌∷◌, ◌++◌, length, drop, Option, Some, None, arith, ap, sym, ◌∙◌, refl, append_assoc, append-nil}
use Rattle.std.proofs.Common.{subst}
use Rattle.std.proofs.Common.{◌^◌}
use Rattle.std.proofs.lemmas.Bool.{ne_eqb, lt-ltb}
use Rattle.std.proofs.lemmas.List.Elements.{All-head, All-tail}
use Rattle.mir_func.specs.declared.position.Origin.{Origin}
use Rattle.mir_func.specs.declared.position.Origin.TheVariants.{Kept, Before}
use Rattle.mir_printer.specs.Spelling.{item_text}
use Rattle.mir_printer.specs.Printable.{IsNumber}
use Rattle.listing_text.specs.Hex.{address_text}
use Rattle.listing_text.specs.declared.output.ItemLine.{ItemLine}
use Rattle.listing_text.specs.declared.output.SkipLine.{SkipLine}
use Rattle.listing_text.specs.declared.output.Line.{Line}
use Rattle.listing_text.specs.declared.output.Line.TheVariants.{Item, Skip}
use Rattle.listing_text.specs.declared.output.ObjectPlace.{ObjectPlace}
use Rattle.listing_text.specs.declared.output.ObjectPlace.TheVariants.{InArea, FromEntry}
use Rattle.listing_text.specs.declared.output.ListedBlock.{ListedBlock}
use Rattle.listing_text.specs.declared.output.ListedFunction.{ListedFunction}
use Rattle.listing_text.specs.declared.output.Output.{Output}
use Rattle.listing_text.specs.Output.{section_text, section_if, listing_text, function_line, variable_line, substitution_line, spaced_origin}
use Rattle.listing_text.specs.Output.{start_text, item_line, skip_line, skip_text, line_text, block_line, block_text, function_text, spelling, object_line}
use Rattle.listing_text.specs.Output.{object_text}
use Rattle.listing_text.specs.Shown.{IsPrintableLine, IsPrintableVariable, IsPrintableEntry, IsPrintableBlock, IsPrintableFunction, IsPrintableOutput, Shows}
use Rattle.listing_text.specs.Shown.{IsPrintableObject, IsPrintableItem, IsPrintableSkip}
use Rattle.listing_text.proofs.HexLemmas.{address_heads}
use Rattle.listing_text.proofs.LineLemmas.{section_one, function_line_one, variable_line_one, substitution_line_one, block_line_one, object_line_one}
use Rattle.listing_text.proofs.SkipLemmas.{line_one}

-- ---- many texts of a kind, one after the other

-- how texts of a kind are told: they begin as nothing does that may follow them
record Tells {A : Type 0} (Good : A → Type 0) (text : A → List ℕ) (begins : List ℕ → Bool) (After : List ℕ → Type 0) : Type 0 where
  begin : (x : A) (r : List ℕ) → Good x → begins (text x ++ r) ≡ true
  after : (x : A) (r : List ℕ) → Good x → After (text x ++ r)
  one : (x y : A) (r s : List ℕ) → Good x → Good y → After r → After s → text x ++ r ≡ text y ++ s → (x ≡ y) × (r ≡ s)

after_many : {A : Type 0} (Good : A → Type 0) (text : A → List ℕ) (begins : List ℕ → Bool) (After : List ℕ → Type 0) → Tells Good text begins After →
    (xs : List A) (r : List ℕ) → All Good xs → After r → After (flat_map text xs ++ r)
after_many Good text begins After is [] r all after = after
after_many {A} Good text begins After is (x ∷ xs) r all after =
    let whole : text x ++ (flat_map text xs ++ r) ≡ flat_map text (x ∷ xs) ++ r = sym (append_assoc (text x) (flat_map text xs) r) in
    subst After whole (is.after x (flat_map text xs ++ r) (All-head Good x xs all))

begins_many : {A : Type 0} (Good : A → Type 0) (text : A → List ℕ) (begins : List ℕ → Bool) (After : List ℕ → Type 0) → Tells Good text begins After →
    (x : A) (xs : List A) (r : List ℕ) → All Good (x ∷ xs) → begins (flat_map text (x ∷ xs) ++ r) ≡ true
begins_many Good text begins After is x xs r all = ap begins (append_assoc (text x) (flat_map text xs) r) ∙ is.begin x (flat_map text xs ++
    r) (All-head Good x xs all)

many_one : {A : Type 0} (Good : A → Type 0) (text : A → List ℕ) (begins : List ℕ → Bool) (After : List ℕ → Type 0) → Tells Good text begins After →
    (xs ys : List A) (r s : List ℕ) → All Good xs → All Good ys → begins r ≡ false → begins s ≡ false → After r → After s →
    flat_map text xs ++ r ≡ flat_map text ys ++ s → (xs ≡ ys) × (r ≡ s)
many_one Good text begins After is [] [] r s all others stop stops after afters e = (refl, e)
many_one Good text begins After is [] (y ∷ ys) r s all others stop stops after afters e =
    let both : false ≡ true = sym stop ∙ (ap begins e ∙ begins_many Good text begins After is y ys s others) in absurd cc
many_one Good text begins After is (x ∷ xs) [] r s all others stop stops after afters e =
    let both : false ≡ true = sym stops ∙ (ap begins (sym e) ∙ begins_many Good text begins After is x xs r all) in absurd cc
many_one Good text begins After is (x ∷ xs) (y ∷ ys) r s all others stop stops after afters e =
    let whole = sym (append_assoc (text x) (flat_map text xs) r) ∙ (e ∙ append_assoc (text y) (flat_map text ys) s) in
    let more = All-tail Good x xs all in
    let rest = All-tail Good y ys others in
    let first = is.one x y (flat_map text xs ++ r) (flat_map text ys ++ s) (All-head Good x xs all) (All-head Good y ys others)
    (after_many Good text begins After is xs r more after) (after_many Good text begins After is ys s rest afters) whole in
    let found = many_one Good text begins After is xs ys r s more rest stop stops after afters first.1 in
    (let head : x ≡ y = first.0 in let tail : xs ≡ ys = found.0 in cc, found.1)

-- what no text of a kind passes, many of them before a text don't
none_passes : {A : Type 0} (Good : A → Type 0) (text : A → List ℕ) (test : List ℕ → Bool) → ((x : A) (r : List ℕ) → Good x → test (text x ++ r) ≡ false) →
    (xs : List A) (r : List ℕ) → All Good xs → test r ≡ false → test (flat_map text xs ++ r) ≡ false
none_passes Good text test none [] r all fails = fails
none_passes Good text test none (x ∷ xs) r all fails = ap test (append_assoc (text x) (flat_map text xs) r) ∙ none x (flat_map text xs ++
    r) (All-head Good x xs all)

-- ---- how texts begin

abbrev begins_with : ℕ → List ℕ → Bool
begins_with b [] = false
begins_with b (c ∷ cs) = nat_eq c b

-- an item's line: its second byte is a digit or a blank, and not the `l` or the `u` of `block` and `function`
abbrev begins_line : List ℕ → Bool
begins_line [] = false
begins_line (a ∷ []) = false
begins_line (a ∷ b ∷ bs) = nat_lt b 103

abbrev begins_function : List ℕ → Bool
begins_function [] = false
begins_function (a ∷ bs) = true

abbrev Anything : List ℕ → Type 0
Anything t = Unit {0}

line_parts : (a b c d rest : List ℕ) → (a ++ b ++ c ++ d) ++ rest ≡ a ++ (b ++ (c ++ (d ++ rest)))
line_parts a b c d rest = simp append_assoc

marked_begins : (o : Origin) (rest : List ℕ) → begins_line (codes "-" ++ (spaced_origin o ++ rest)) ≡ true
marked_begins (Kept p) rest = refl
marked_begins (Before p) rest = refl

placed_begins : (a : ℕ) (rest : List ℕ) → a < 2 ^ 32 → begins_line (address_text a ++ rest) ≡ true
placed_begins a rest small =
    let h = address_heads a rest small in
    ap begins_line h.parts ∙ lt-ltb h.second 103 (omega (arith, h.second_high))

placed_other : (a b : ℕ) (rest : List ℕ) → a < 2 ^ 32 → 102 < b → begins_with b (address_text a ++ rest) ≡ false
placed_other a b rest small high =
    let h = address_heads a rest small in
    ap (begins_with b) h.parts ∙ ne_eqb h.first b (λ e. omega (arith, e, h.first_high))

start_begins : (a : Option ℕ) (o : Origin) (rest : List ℕ) → IfSome a IsNumber → begins_line (start_text a ++ (spaced_origin o ++ rest)) ≡ true
start_begins None o rest small = marked_begins o rest
start_begins (Some a) o rest small = placed_begins a (spaced_origin o ++ rest) small

start_other : (a : Option ℕ) (b : ℕ) (rest : List ℕ) → IfSome a IsNumber → 102 < b → begins_with b (start_text a ++ rest) ≡ false
start_other None b rest small high = ne_eqb 45 b (λ e. omega (arith, e))
start_other (Some a) b rest small high = placed_other a b rest small high

item_begins : (inlined : ℕ → Option ℕ) (l : ItemLine) (r : List ℕ) → IsPrintableItem inlined l → begins_line (item_line l ++ r) ≡ true
item_begins inlined l r is =
    ap begins_line (line_parts (start_text l.address) (spaced_origin l.item.origin) (item_text l.item) (10 ∷ []) r) ∙
    start_begins l.address l.item.origin (item_text l.item ++ (10 ∷ r)) is.address

item_other : (inlined : ℕ → Option ℕ) (b : ℕ) → 102 < b → (l : ItemLine) (r : List ℕ) → IsPrintableItem inlined l → begins_with b (item_line l ++ r) ≡ false
item_other inlined b high l r is =
    ap (begins_with b) (line_parts (start_text l.address) (spaced_origin l.item.origin) (item_text l.item) (10 ∷ []) r) ∙
    start_other l.address b (spaced_origin l.item.origin ++ (item_text l.item ++ (10 ∷ r))) is.address high

skip_begins : (s : SkipLine) (r : List ℕ) → IsPrintableSkip s → begins_line (skip_line s ++ r) ≡ true
skip_begins s r is =
    ap begins_line (line_parts (address_text s.address) (spaced_origin s.origin) (skip_text s) (10 ∷ []) r) ∙
    placed_begins s.address (spaced_origin s.origin ++ (skip_text s ++ (10 ∷ r))) is.address

skip_other : (b : ℕ) → 102 < b → (s : SkipLine) (r : List ℕ) → IsPrintableSkip s → begins_with b (skip_line s ++ r) ≡ false
skip_other b high s r is =
    ap (begins_with b) (line_parts (address_text s.address) (spaced_origin s.origin) (skip_text s) (10 ∷ []) r) ∙
    placed_other s.address b (spaced_origin s.origin ++ (skip_text s ++ (10 ∷ r))) is.address high

line_begins : (inlined : ℕ → Option ℕ) (l : Line) (r : List ℕ) → IsPrintableLine inlined l → begins_line (line_text l ++ r) ≡ true
line_begins inlined (Item l) r is = item_begins inlined l r is
line_begins inlined (Skip s) r is = skip_begins s r is

line_other : (inlined : ℕ → Option ℕ) (b : ℕ) → 102 < b → (l : Line) (r : List ℕ) → IsPrintableLine inlined l → begins_with b (line_text l ++ r) ≡ false
line_other inlined b high (Item l) r is = item_other inlined b high l r is
line_other inlined b high (Skip s) r is = skip_other b high s r is

lines_tell : (inlined : ℕ → Option ℕ) → Tells (IsPrintableLine inlined) line_text begins_line Anything
lines_tell inlined = record {
  begin = line_begins inlined;
  after = λ l r is. tt;
  one = λ l m r s is others after afters e. line_one inlined l m r s is others e;
}

variables_tell : Tells IsPrintableVariable variable_line (begins_with 118) Anything
variables_tell = record {
  begin = λ v r is. refl;
  after = λ v r is. tt;
  one = λ v w r s is others after afters e. variable_line_one v w r s is others e;
}

-- the line of an object, which may be a fixed one
abbrev begins_object : List ℕ → Bool
begins_object t = begins_with 111 t || begins_with 105 t

object_begins : (id size : ℕ) (place : ObjectPlace) (r : List ℕ) → begins_object (object_text id size place ++ r) ≡ true
object_begins id size (InArea n) r = refl
object_begins id size (FromEntry d) r = refl

objects_tell : Tells IsPrintableObject object_line begins_object Anything
objects_tell = record {
  begin = λ x r is. object_begins x.id x.size x.place r;
  after = λ x r is. tt;
  one = λ x y r s is others after afters e. object_line_one x y r s is others e;
}

substitutions_tell : Tells IsPrintableEntry substitution_line (begins_with 115) Anything
substitutions_tell = record {
  begin = λ x r is. refl;
  after = λ x r is. tt;
  one = λ x y r s is others after afters e. substitution_line_one x y r s is others e;
}

-- ---- a section that may be absent

section_if_one : (name : List ℕ) (a b : Option (List ℕ)) (r s : List ℕ) → IfSome a (λ bytes. IsNumber (length bytes))
    → IfSome b (λ bytes. IsNumber (length bytes)) → begins_with 115 r ≡ false → begins_with 115 s ≡ false → section_if name a ++ r ≡ section_if name b ++ s
    → (a ≡ b) × (r ≡ s)
section_if_one name None None r s small other stop stops e = (refl, e)
section_if_one name None (Some b) r s small other stop stops e = let both : false ≡ true = sym stop ∙ ap (begins_with 115) e in absurd cc
section_if_one name (Some a) None r s small other stop stops e = let both : false ≡ true = sym stops ∙ ap (begins_with 115) (sym e) in absurd cc
section_if_one name (Some a) (Some b) r s small other stop stops e =
    let one = section_one name a b r s small other e in (ap (λ (bytes : List ℕ). Some bytes) one.0, one.1)

-- Of two sections that may be absent one after the other the first byte of the name tells which stands there. A text with the first begins with
-- `section .debug_f`, one with the second alone with `section .debug_r`, and one with neither begins no section.
abbrev tells_frame : List ℕ → Bool
tells_frame xs = begins_with 102 (drop 15 xs)

section_if_before : (name other : List ℕ) (a b c d : Option (List ℕ)) (r s : List ℕ) → IfSome a (λ bytes. IsNumber (length bytes))
    → IfSome b (λ bytes. IsNumber (length bytes)) → IfSome c (λ bytes. IsNumber (length bytes)) → IfSome d (λ bytes. IsNumber (length bytes))
    → begins_with 115 r ≡ false → begins_with 115 s ≡ false
    → ((x y : List ℕ) (z w : List ℕ) → section_text name x ++ z ≡ section_text other y ++ w → ⊥)
    → section_if name a ++ (section_if other c ++ r) ≡ section_if name b ++ (section_if other d ++ s) → (a ≡ b) × (c ≡ d) × (r ≡ s)
section_if_before name other None None c d r s sa sb sc sd stop stops apart e =
    let one = section_if_one other c d r s sc sd stop stops e in (refl, one.0, one.1)
section_if_before name other (Some a) (Some b) c d r s sa sb sc sd stop stops apart e =
    let one = section_one name a b _ _ sa sb e in
    let rest = section_if_one other c d r s sc sd stop stops one.1 in
    (ap (λ (bytes : List ℕ). Some bytes) one.0, rest.0, rest.1)
section_if_before name other None (Some b) None d r s sa sb sc sd stop stops apart e =
    let both : false ≡ true = sym stop ∙ ap (begins_with 115) e in absurd cc
section_if_before name other None (Some b) (Some c) d r s sa sb sc sd stop stops apart e = absurd (apart b c _ _ (sym e))
section_if_before name other (Some a) None c None r s sa sb sc sd stop stops apart e =
    let both : false ≡ true = sym stops ∙ ap (begins_with 115) (sym e) in absurd cc
section_if_before name other (Some a) None c (Some d) r s sa sb sc sd stop stops apart e = absurd (apart a d _ _ e)

-- the section of call frame information is none of range lists
frame_apart : (x y z w : List ℕ) → section_text (codes ".debug_frame") x ++ z ≡ section_text (codes ".debug_rnglists") y ++ w → ⊥
frame_apart x y z w e = let both : true ≡ false = ap tells_frame e in absurd cc

-- ---- blocks

abbrev EndsLines : List ℕ → Type 0
EndsLines t = begins_line t ≡ false

block_parts : (id : ℕ) (lines : List Line) (r : List ℕ) → block_text (record { id = id; lines = lines }) ++ r ≡ block_line id ++
    (flat_map line_text lines ++ r)
block_parts id lines r = append_assoc (block_line id) (flat_map line_text lines) r

block_one : (inlined : ℕ → Option ℕ) (b c : ListedBlock) (r s : List ℕ) → IsPrintableBlock inlined b → IsPrintableBlock inlined c → EndsLines r → EndsLines s →
    block_text b ++ r ≡ block_text c ++ s → (b ≡ c) × (r ≡ s)
block_one inlined b c r s is others stop stops e =
    let whole = sym (block_parts b.id b.lines r) ∙ (e ∙ block_parts c.id c.lines s) in
    let id = block_line_one b.id c.id _ _ is.id others.id whole in
    let lines = many_one (IsPrintableLine inlined) line_text begins_line Anything (lines_tell inlined) b.lines c.lines r s is.lines others.lines stop stops tt
    tt id.1 in
    (λ k. record { id = id.0 k; lines = lines.0 k }, lines.1)

blocks_tell : (inlined : ℕ → Option ℕ) → Tells (IsPrintableBlock inlined) block_text (begins_with 98) EndsLines
blocks_tell inlined = record {
  begin = λ b r is. refl;
  after = λ b r is. refl;
  one = block_one inlined;
}

-- ---- functions

-- what may follow a function: nothing, or another one
pub record EndsFunction (t : List ℕ) : Type 0 where
  pub lines : begins_line t ≡ false
  pub blocks : begins_with 98 t ≡ false
  pub objects : begins_object t ≡ false
  pub variables : begins_with 118 t ≡ false
  pub substitutions : begins_with 115 t ≡ false

abbrev from_blocks : ListedFunction → List ℕ → List ℕ
from_blocks f r = flat_map block_text f.blocks ++ r

abbrev from_prologue : ListedFunction → List ℕ → List ℕ
from_prologue f r = flat_map line_text f.prologue ++ from_blocks f r

abbrev from_substitutions : ListedFunction → List ℕ → List ℕ
from_substitutions f r = flat_map substitution_line f.substitutions ++ from_prologue f r

abbrev from_variables : ListedFunction → List ℕ → List ℕ
from_variables f r = flat_map variable_line f.variables ++ from_substitutions f r

function_parts : (a b c d e f rest : List ℕ) → ((a ++ b ++ c ++ d) ++ (e ++ f)) ++ rest ≡ a ++ (b ++ (c ++ (d ++ (e ++ (f ++ rest)))))
function_parts a b c d e f rest = simp append_assoc

function_is : (f : ListedFunction) (r : List ℕ) →
    function_text f ++ r ≡ function_line f.name f.low f.high ++ (flat_map object_line f.objects ++ from_variables f r)
function_is f r =
    function_parts (function_line f.name f.low f.high) (flat_map object_line f.objects) (flat_map variable_line f.variables)
    (flat_map substitution_line f.substitutions) (flat_map line_text f.prologue) (flat_map block_text f.blocks) r

module _ (inlined : ℕ → Option ℕ) where
  no_lines : (f : ListedFunction) (r : List ℕ) → IsPrintableFunction inlined f → EndsFunction r → begins_line (from_blocks f r) ≡ false
  no_lines f r is end = none_passes (IsPrintableBlock inlined) block_text begins_line (λ b r is. refl) f.blocks r is.blocks end.lines

  no_substitutions : (f : ListedFunction) (r : List ℕ) → IsPrintableFunction inlined f → EndsFunction r → begins_with 115 (from_prologue f r) ≡ false
  no_substitutions f r is end =
      none_passes (IsPrintableLine inlined) line_text (begins_with 115) (line_other inlined 115 (omega arith)) f.prologue (from_blocks f r) is.prologue
      (none_passes (IsPrintableBlock inlined) block_text (begins_with 115) (λ b r is. refl) f.blocks r is.blocks end.substitutions)

  no_variables : (f : ListedFunction) (r : List ℕ) → IsPrintableFunction inlined f → EndsFunction r → begins_with 118 (from_substitutions f r) ≡ false
  no_variables f r is end =
      none_passes IsPrintableEntry substitution_line (begins_with 118) (λ x r is. refl) f.substitutions (from_prologue f r) is.substitutions
      (none_passes (IsPrintableLine inlined) line_text (begins_with 118) (line_other inlined 118 (omega arith)) f.prologue (from_blocks f r) is.prologue
      (none_passes (IsPrintableBlock inlined) block_text (begins_with 118) (λ b r is. refl) f.blocks r is.blocks end.variables))

  line_no_object : (l : Line) (r : List ℕ) → IsPrintableLine inlined l → begins_object (line_text l ++ r) ≡ false
  line_no_object l r is =
      ap (λ (b : Bool). b || begins_with 105 (line_text l ++ r)) (line_other inlined 111 (omega arith) l r is) ∙ line_other inlined 105 (omega arith) l r is

  no_objects : (f : ListedFunction) (r : List ℕ) → IsPrintableFunction inlined f → EndsFunction r → begins_object (from_variables f r) ≡ false
  no_objects f r is end =
      none_passes IsPrintableVariable variable_line begins_object (λ x r is. refl) f.variables (from_substitutions f r) is.variables
      (none_passes IsPrintableEntry substitution_line begins_object (λ x r is. refl) f.substitutions (from_prologue f r) is.substitutions
      (none_passes (IsPrintableLine inlined) line_text begins_object line_no_object f.prologue (from_blocks f r) is.prologue
      (none_passes (IsPrintableBlock inlined) block_text begins_object (λ b r is. refl) f.blocks r is.blocks end.objects)))

  function_one : (f g : ListedFunction) (r s : List ℕ) → IsPrintableFunction inlined f → IsPrintableFunction inlined g → EndsFunction r → EndsFunction s →
      function_text f ++ r ≡ function_text g ++ s → (f ≡ g) × (r ≡ s)
  function_one f g r s is others end ends e =
      let whole = sym (function_is f r) ∙ (e ∙ function_is g s) in
      let head = function_line_one f.name g.name f.low f.high g.low g.high _ _ whole in
      let objects = many_one IsPrintableObject object_line begins_object Anything objects_tell f.objects g.objects (from_variables f r)
      (from_variables g s) is.objects others.objects (no_objects f r is end) (no_objects g s others ends) tt tt head.3 in
      let variables = many_one IsPrintableVariable variable_line (begins_with 118) Anything variables_tell f.variables g.variables (from_substitutions f r)
      (from_substitutions g s) is.variables others.variables
      (no_variables f r is end) (no_variables g s others ends) tt tt objects.1 in
      let substitutions = many_one IsPrintableEntry substitution_line (begins_with 115) Anything substitutions_tell f.substitutions g.substitutions
      (from_prologue f r) (from_prologue g s) is.substitutions others.substitutions
      (no_substitutions f r is end) (no_substitutions g s others ends) tt tt variables.1 in
      let prologue = many_one (IsPrintableLine inlined) line_text begins_line Anything (lines_tell inlined) f.prologue g.prologue (from_blocks f r)
      (from_blocks g s) is.prologue others.prologue
      (no_lines f r is end) (no_lines g s others ends) tt tt substitutions.1 in
      let blocks = many_one (IsPrintableBlock inlined) block_text (begins_with 98) EndsLines (blocks_tell inlined) f.blocks g.blocks r s is.blocks
      others.blocks end.blocks ends.blocks end.lines ends.lines prologue.1 in (
        λ k. record {
          name = head.0 k;
          low = head.1 k;
          high = head.2 k;
          objects = objects.0 k;
          variables = variables.0 k;
          substitutions =
              substitutions.0 k;
          prologue = prologue.0 k;
          blocks = blocks.0 k;
        },
        blocks.1,
      )

  functions_tell : Tells (IsPrintableFunction inlined) function_text begins_function EndsFunction
  functions_tell = record {
    begin = λ f r is. refl;
    after = λ f r is. record { lines = refl; blocks = refl; objects = refl; variables = refl; substitutions = refl };
    one = function_one;
  }

  no_section : (fs : List ListedFunction) → All (IsPrintableFunction inlined) fs → begins_with 115 (listing_text fs ++ []) ≡ false
  no_section fs all = none_passes (IsPrintableFunction inlined) function_text (begins_with 115) (λ f r is. refl) fs [] all refl

  output_one : (o p : Output) → IsPrintableOutput inlined o → IsPrintableOutput inlined p → spelling o ≡ spelling p → o ≡ p
  output_one o p is others e =
      let left = output_parts (section_text (codes ".text") o.text) (section_text (codes ".debug_abbrev") o.abbreviations)
      (section_text (codes ".debug_info") o.info) (section_text (codes ".debug_line") o.rows) (section_text (codes ".debug_loclists") o.loclists)
      (section_if (codes ".debug_frame") o.frame) (section_if (codes ".debug_rnglists") o.ranges) (listing_text o.functions) in
      let right = output_parts (section_text (codes ".text") p.text) (section_text (codes ".debug_abbrev") p.abbreviations)
      (section_text (codes ".debug_info") p.info) (section_text (codes ".debug_line") p.rows) (section_text (codes ".debug_loclists") p.loclists)
      (section_if (codes ".debug_frame") p.frame) (section_if (codes ".debug_rnglists") p.ranges) (listing_text p.functions) in
      let text = section_one (codes ".text") o.text p.text _ _ is.text others.text (sym left ∙ (e ∙ right)) in
      let abbreviations = section_one (codes ".debug_abbrev") o.abbreviations p.abbreviations _ _ is.abbreviations others.abbreviations text.1 in
      let info = section_one (codes ".debug_info") o.info p.info _ _ is.info others.info abbreviations.1 in
      let rows = section_one (codes ".debug_line") o.rows p.rows _ _ is.rows others.rows info.1 in
      let lists = section_one (codes ".debug_loclists") o.loclists p.loclists _ _ is.loclists others.loclists rows.1 in
      let may = section_if_before (codes ".debug_frame") (codes ".debug_rnglists") o.frame p.frame o.ranges p.ranges _ _ is.frame others.frame is.ranges
      others.ranges (no_section o.functions is.functions) (no_section p.functions others.functions) frame_apart lists.1 in
      let end : EndsFunction [] = record { lines = refl; blocks = refl; objects = refl; variables = refl; substitutions = refl } in
      let functions = many_one (IsPrintableFunction inlined) function_text begins_function EndsFunction functions_tell o.functions p.functions [] []
      is.functions others.functions refl refl end end may.2 in
      λ k. record {
        text = text.0 k;
        abbreviations = abbreviations.0 k;
        info = info.0 k;
        rows = rows.0 k;
        loclists = lists.0 k;
        frame = may.0 k;
        ranges = may.1 k;
        functions = functions.0 k;
      }
    where
      output_parts : (a b c d e f g h : List ℕ) → (a ++ b ++ c ++ d ++ e ++ f ++ g) ++ h
          ≡ a ++ (b ++ (c ++ (d ++ (e ++ (f ++ (g ++ (h ++ [])))))))
      output_parts a b c d e f g h =
          let grouped : (a ++ b ++ c ++ d ++ e ++ f ++ g) ++ h ≡ a ++ (b ++ (c ++ (d ++ (e ++ (f ++ (g ++ h)))))) = simp append_assoc in
          grouped ∙ ap (λ (t : List ℕ). a ++ (b ++ (c ++ (d ++ (e ++ (f ++ (g ++ t))))))) (sym (append-nil h))

pub one_reading : (inlined : ℕ → Option ℕ) (text : List ℕ) (o p : Output) → Shows inlined text o → Shows inlined text p → o ≡ p
one_reading inlined text o p is others = output_one inlined o p is.printable others.printable (sym is.spelled ∙ others.spelled)
