-- What a line of an output tells.
use Rattle.mir_func.specs.declared.debug_substitution.OperandPair.{OperandPair}
use Rattle.std.specs.Prelude.{Bool, true, false, cond, nat_eq, codes, IfSome}
use Rattle.std.specs.Fmt.{decimal, signed_decimal}
use Rattle.std.proofs.Common.{◌≡◌, ℕ, ◌-◌, ◌≤◌, ◌/◌, ◌%◌, List, [], ◌∷◌, ◌++◌, length, Option, Some, None, arith, ap, sym, subst, ◌∙◌, refl, append_assoc}
use Rattle.base_ids.specs.Limits.{FIXED, text_number}
use Rattle.std.proofs.lemmas.Bool.{eqb-true, eqb-false, le-leb}
use Rattle.mir_func.specs.declared.position.Pos.{Pos}
use Rattle.mir_func.specs.declared.position.Origin.{Origin}
use Rattle.mir_func.specs.declared.position.Origin.TheVariants.{Kept, Before}
use Rattle.mir_func.specs.declared.debug_substitution.DebugSubstitution.{DebugSubstitution}
use Rattle.mir_printer.specs.Spelling.{item_text, quoted_byte, upper_hex_digit}
use Rattle.mir_printer.specs.Printable.{IsNumber}
use Rattle.mir_printer.proofs.Cuts.{front_one, apart, Spells, spelled_one, signed_one}
use Rattle.mir_printer.proofs.Symbols.{is_plain, digit_one, quoted_one, quoted_head}
use Rattle.mir_printer.proofs.Operands.{number_one}
use Rattle.mir_printer.proofs.Items.{item_line_one}
use Rattle.listing_text.specs.Hex.{hex_lines, address_text}
use Rattle.listing_text.specs.declared.output.ItemLine.{ItemLine}
use Rattle.listing_text.specs.declared.output.ListedVariable.{ListedVariable}
use Rattle.listing_text.specs.declared.output.ObjectPlace.{ObjectPlace}
use Rattle.listing_text.specs.declared.output.ObjectPlace.TheVariants.{InArea, FromEntry}
use Rattle.listing_text.specs.declared.output.ListedObject.{ListedObject}
use Rattle.listing_text.specs.Output.{section_text, name_byte, name_text, function_line, inlined_text, variable_line}
use Rattle.listing_text.specs.Output.{substitution_line, position_text, spaced_origin, start_text, item_line, block_line, pair_text, object_line}
use Rattle.listing_text.specs.Output.{object_text}
use Rattle.listing_text.specs.Shown.{HasNumbersAt, IsPrintableOrigin, IsPrintableItem, IsPrintableVariable, IsPrintableEntry, declared_by, HasNumbers}
use Rattle.listing_text.specs.Shown.{IsPrintableObjectPlace, IsPrintableObject}
use Rattle.listing_text.proofs.HexLemmas.{address_one, address_heads, bytes_one}

-- ---- sections

section_parts : (a b c d e f rest : List ℕ) → (a ++ b ++ c ++ d ++ e ++ f) ++ rest ≡ (a ++ b ++ c) ++ (d ++ (e ++ (f ++ rest)))
section_parts a b c d e f rest = simp append_assoc

pub section_one : (name a b r s : List ℕ) → IsNumber (length a) → IsNumber (length b) → section_text name a ++ r ≡ section_text name b ++ s → (a ≡ b) × (r ≡ s)
section_one name a b r s small other e =
    let whole = sym (section_parts (codes "section ") name (codes " ") (decimal (length a)) (10 ∷ []) (hex_lines 0 a) r) ∙ (e ∙
    section_parts (codes "section ") name (codes " ") (decimal (length b)) (10 ∷ []) (hex_lines 0 b) s) in
    let size = number_one (length a) (length b) (10 ∷ (hex_lines 0 a ++ r)) (10 ∷ (hex_lines 0 b ++ s)) small other refl refl (front_one (codes "section " ++
    name ++ codes " ") _ _ whole) in
    bytes_one a b 0 r s size.0 (front_one (10 ∷ []) (hex_lines 0 a ++ r) (hex_lines 0 b ++ s) size.1)

-- ---- names

abbrev name_by : Bool → ℕ → List ℕ
name_by p b = cond p (codes "\\20") (quoted_byte b)

abbrev byte_by : Bool → ℕ → List ℕ
byte_by p b = cond p (b ∷ []) (92 ∷ upper_hex_digit (b / 16) ∷ upper_hex_digit (b % 16) ∷ [])

space_digits : (y : ℕ) → y / 16 ≡ 2 → y % 16 ≡ 0 → y ≡ 32
space_digits y high low = omega arith

-- the escape of a space is that of no other byte
space_by : (p : Bool) (y : ℕ) (r s : List ℕ) → is_plain y ≡ p → codes "\\20" ++ r ≡ byte_by p y ++ s → y ≡ 32
space_by true y r s is e =
    let same : 92 ≡ y = cc in
    let both : is_plain 92 ≡ is_plain y = ap is_plain same in
    absurd cc
space_by false y r s is e =
    let high : upper_hex_digit 2 ≡ upper_hex_digit (y / 16) = cc in
    let low : upper_hex_digit 0 ≡ upper_hex_digit (y % 16) = cc in
    space_digits y (sym (digit_one 2 (y / 16) high)) (sym (digit_one 0 (y % 16) low))

space_one : (y : ℕ) (r s : List ℕ) → codes "\\20" ++ r ≡ quoted_byte y ++ s → y ≡ 32
space_one y r s e = space_by (is_plain y) y r s refl e

name_cases : (p q : Bool) (x y : ℕ) (r s : List ℕ) → nat_eq x 32 ≡ p → nat_eq y 32 ≡ q → name_by p x ++ r ≡ name_by q y ++ s → (x ≡ y) × (r ≡ s)
name_cases true true x y r s is others e = (eqb-true x 32 is ∙ sym (eqb-true y 32 others), front_one (codes "\\20") r s e)
name_cases true false x y r s is others e = absurd (eqb-false y 32 others (space_one y r s e))
name_cases false true x y r s is others e = absurd (eqb-false x 32 is (space_one x s r (sym e)))
name_cases false false x y r s is others e = quoted_one x y r s e

name_one : (x y : ℕ) (r s : List ℕ) → name_byte x ++ r ≡ name_byte y ++ s → (x ≡ y) × (r ≡ s)
name_one x y r s e = name_cases (nat_eq x 32) (nat_eq y 32) x y r s refl refl e

space_begins : (p : Bool) (x : ℕ) (r s : List ℕ) → nat_eq x 32 ≡ p → name_by p x ++ r ≡ 32 ∷ s → ⊥
space_begins true x r s is e = apart 92 32 (codes "20" ++ r) s refl e
space_begins false x r s is e = eqb-false x 32 is (quoted_head x 32 r s (λ same. omega arith) e).0

feed_begins : (p : Bool) (x : ℕ) (r s : List ℕ) → nat_eq x 32 ≡ p → name_by p x ++ r ≡ 10 ∷ s → ⊥
feed_begins true x r s is e = apart 92 10 (codes "20" ++ r) s refl e
feed_begins false x r s is e =
    let found = quoted_head x 10 r s (λ same. omega arith) e in
    let both : is_plain x ≡ is_plain 10 = ap is_plain found.0 in
    let plain : is_plain x ≡ true = found.1 in
    absurd cc

before_space : Spells name_byte 32
before_space = record { one = name_one; begins = λ x r s e. space_begins (nat_eq x 32) x r s refl e }

before_feed : Spells name_byte 10
before_feed = record { one = name_one; begins = λ x r s e. feed_begins (nat_eq x 32) x r s refl e }

-- ---- a function's line

pub function_parts : (a b c d e f g rest : List ℕ) → (a ++ b ++ c ++ d ++ e ++ f ++ g) ++ rest ≡ a ++ (b ++ (c ++ (d ++ (e ++ (f ++ (g ++ rest))))))
function_parts a b c d e f g rest = simp append_assoc

pub function_line_one : (a b : List ℕ) (low high other another : ℕ) (r s : List ℕ) → function_line a low high ++ r ≡ function_line b other another ++ s →
    (a ≡ b) × (low ≡ other) × (high ≡ another) × (r ≡ s)
function_line_one a b low high other another r s e =
    let whole = sym (function_parts (codes "function ") (name_text a) (codes " ") (address_text low) (codes " ") (address_text high) (10 ∷ []) r)
    ∙ (e ∙ function_parts (codes "function ") (name_text b) (codes " ") (address_text other) (codes " ") (address_text another) (10 ∷ []) s) in
    let name = spelled_one name_byte 32 before_space a b (address_text low ++ (codes " " ++ (address_text high ++ (10 ∷ r)))) (address_text other ++
    (codes " " ++ (address_text another ++ (10 ∷ s)))) (front_one (codes "function ") _ _ whole) in
    let first = address_one low other (codes " " ++ (address_text high ++ (10 ∷ r))) (codes " " ++ (address_text another ++ (10 ∷ s))) name.1 in
    let second = address_one high another (10 ∷ r) (10 ∷ s) (front_one (codes " ") _ _ first.1) in
    (name.0, first.0, second.0, front_one (10 ∷ []) r s second.1)

-- ---- a variable's line

inlined_one : (a b : Option ℕ) (r s : List ℕ) → IfSome a IsNumber → IfSome b IsNumber → inlined_text a ++ (codes " " ++ r) ≡ inlined_text b ++ (codes " " ++
    s) → (a ≡ b) × (r ≡ s)
inlined_one None None r s small other e = (refl, front_one (codes " - ") r s e)
inlined_one None (Some n) r s small other e = absurd (apart 45 33 (codes " " ++ r) (decimal n ++ (codes " " ++ s)) refl (front_one (codes " ") _ _ e))
inlined_one (Some m) None r s small other e = absurd (apart 33 45 (decimal m ++ (codes " " ++ r)) (codes " " ++ s) refl (front_one (codes " ") _ _ e))
inlined_one (Some m) (Some n) r s small other e =
    let found = number_one m n (codes " " ++ r) (codes " " ++ s) small other refl refl (front_one (codes " !") (decimal m ++ (codes " " ++ r)) (decimal n ++
    (codes " " ++ s)) e) in
    (ap (λ (k : ℕ). Some k) found.0, front_one (codes " ") r s found.1)

inlined_stops : (o : Option ℕ) (r : List ℕ) → (t : List ℕ) × (inlined_text o ++ r ≡ 32 ∷ t)
inlined_stops None r = (codes "-" ++ r, refl)
inlined_stops (Some n) r = (codes "!" ++ (decimal n ++ r), refl)

variable_parts : (a b c d e f g h rest : List ℕ) → (a ++ b ++ c ++ d ++ e ++ f ++ g ++ h) ++ rest ≡ a ++ (b ++ (c ++ (d ++ (e ++ (f ++ (g ++ (h ++ rest)))))))
variable_parts a b c d e f g h rest = simp append_assoc

node_one : (m n : ℕ) (a b : Option ℕ) (r s : List ℕ) → IsNumber m → IsNumber n → IfSome a IsNumber → IfSome b IsNumber →
    decimal m ++ (inlined_text a ++ (codes " " ++ r)) ≡ decimal n ++ (inlined_text b ++ (codes " " ++ s)) →
    (m ≡ n) × (a ≡ b) × (r ≡ s)
node_one m n None None r s small other is others e =
    let node = number_one m n _ _ small other refl refl e in let rest = inlined_one None None r s is others node.1 in (node.0, rest.0, rest.1)
node_one m n None (Some k) r s small other is others e =
    let node = number_one m n _ _ small other refl refl e in let rest = inlined_one None (Some k) r s is others node.1 in (node.0, rest.0, rest.1)
node_one m n (Some j) None r s small other is others e =
    let node = number_one m n _ _ small other refl refl e in let rest = inlined_one (Some j) None r s is others node.1 in (node.0, rest.0, rest.1)
node_one m n (Some j) (Some k) r s small other is others e =
    let node = number_one m n _ _ small other refl refl e in let rest = inlined_one (Some j) (Some k) r s is others node.1 in (node.0, rest.0, rest.1)

pub variable_line_one : (v w : ListedVariable) (r s : List ℕ) → IsPrintableVariable v → IsPrintableVariable w → variable_line v ++ r ≡ variable_line w ++ s →
    (v ≡ w) × (r ≡ s)
variable_line_one v w r s is others e =
    let whole = sym (variable_parts (codes "variable ") (decimal v.list) (codes " !") (decimal v.variable.node) (inlined_text v.variable.inlined_at) (codes
    " ") (name_text v.name) (10 ∷ []) r)
    ∙ (e ∙ variable_parts (codes "variable ") (decimal w.list) (codes " !") (decimal w.variable.node) (inlined_text w.variable.inlined_at) (codes " ")
    (name_text w.name) (10 ∷ []) s) in
    let list = number_one v.list w.list _ _ is.list others.list refl refl (front_one (codes "variable ") _ _ whole) in
    let node = node_one v.variable.node w.variable.node v.variable.inlined_at w.variable.inlined_at (name_text v.name ++ (10 ∷ r)) (name_text w.name ++
    (10 ∷ s)) is.node others.node is.inlined_at others.inlined_at
    (front_one (codes " !") _ _ list.1) in
    let name = spelled_one name_byte 10 before_feed v.name w.name r s node.2 in
    let variable : v.variable ≡ w.variable = λ k. record { node = node.0 k; inlined_at = node.1 k; fragment = (is.whole ∙ sym others.whole) k } in
    (λ k. record { list = list.0 k; variable = variable k; name = name.0 k }, name.1)

-- ---- a substitution's line

pair_parts : (a b c d rest : List ℕ) → (a ++ b ++ c ++ d) ++ rest ≡ a ++ (b ++ (c ++ (d ++ rest)))
pair_parts a b c d rest = simp append_assoc

pair_one : (p q : OperandPair) (r s : List ℕ) → HasNumbers p → HasNumbers q → pair_text p ++ r ≡ pair_text q ++ s → (p ≡ q) × (r ≡ s)
pair_one p q r s is others e =
    let whole = sym (pair_parts (decimal p.number) (codes " ") (decimal p.operand) (codes " ") r)
    ∙ (e ∙ pair_parts (decimal q.number) (codes " ") (decimal q.operand) (codes " ") s) in
    let number = number_one p.number q.number _ _ is.0 others.0 refl refl whole in
    let operand = number_one p.operand q.operand _ _ is.1 others.1 refl refl (front_one (codes " ") _ _ number.1) in
    (λ k. record { number = number.0 k; operand = operand.0 k }, front_one (codes " ") r s operand.1)

entry_parts : (a b c d e rest : List ℕ) → (a ++ b ++ c ++ d ++ e) ++ rest ≡ a ++ (b ++ (c ++ (d ++ (e ++ rest))))
entry_parts a b c d e rest = simp append_assoc

pub substitution_line_one : (x y : DebugSubstitution) (r s : List ℕ) → IsPrintableEntry x → IsPrintableEntry y →
    substitution_line x ++ r ≡ substitution_line y ++ s →
    (x ≡ y) × (r ≡ s)
substitution_line_one x y r s is others e =
    let whole = sym (entry_parts (codes "substitute ") (pair_text x.src) (pair_text x.dst) (decimal x.subreg) (10 ∷ []) r)
    ∙ (e ∙ entry_parts (codes "substitute ") (pair_text y.src) (pair_text y.dst) (decimal y.subreg) (10 ∷ []) s) in
    let src = pair_one x.src y.src _ _ is.src others.src (front_one (codes "substitute ") _ _ whole) in
    let dst = pair_one x.dst y.dst _ _ is.dst others.dst src.1 in
    let subreg = number_one x.subreg y.subreg _ _ is.subreg others.subreg refl refl dst.1 in
    (λ k. record { src = src.0 k; dst = dst.0 k; subreg = subreg.0 k }, front_one (10 ∷ []) r s subreg.1)

-- ---- a stack object's line

object_parts : (a b c d e f g rest : List ℕ) →
    (a ++ b ++ c ++ d ++ e ++ f ++ g) ++ rest ≡ a ++ (b ++ (c ++ (d ++ (e ++ (f ++ (g ++ rest))))))
object_parts a b c d e f g rest = simp append_assoc

-- what the line of an object tells
record OneObject (i j m n : ℕ) (p q : ObjectPlace) (r s : List ℕ) : Type 0 where
  id : i ≡ j
  size : m ≡ n
  place : p ≡ q
  rest : r ≡ s

-- a number from FIXED on is that of one N
fixed_one : (i j : ℕ) → FIXED ≤ i → FIXED ≤ j → text_number i ≡ text_number j → i ≡ j
fixed_one i j low lower e =
    let left : text_number i ≡ i - FIXED = ap (λ (b : Bool). cond b (i - FIXED) i) (le-leb FIXED i low) in
    let right : text_number j ≡ j - FIXED = ap (λ (b : Bool). cond b (j - FIXED) j) (le-leb FIXED j lower) in
    let same : i - FIXED ≡ j - FIXED = sym left ∙ (e ∙ right) in
    omega (arith, same, low, lower)

text_small : (i : ℕ) → FIXED ≤ i → IsNumber i → IsNumber (text_number i)
text_small i low small = subst IsNumber (sym (ap (λ (b : Bool). cond b (i - FIXED) i) (le-leb FIXED i low))) (omega (arith, small))

object_text_one : (i j m n : ℕ) (p q : ObjectPlace) (r s : List ℕ) → IsNumber i → IsNumber j → IsNumber m → IsNumber n → IsPrintableObjectPlace i p →
    IsPrintableObjectPlace j q → object_text i m p ++ r ≡ object_text j n q ++ s → OneObject i j m n p q r s
object_text_one i j m n (InArea a) (InArea b) r s is others small other place places e =
    let whole = sym (object_parts (codes "object ") (decimal i) (codes " ") (decimal m) (codes " ") (decimal a) (10 ∷ []) r)
    ∙ (e ∙ object_parts (codes "object ") (decimal j) (codes " ") (decimal n) (codes " ") (decimal b) (10 ∷ []) s) in
    let id = number_one i j _ _ is others refl refl (front_one (codes "object ") _ _ whole) in
    let size = number_one m n _ _ small other refl refl (front_one (codes " ") _ _ id.1) in
    let offset = number_one a b _ _ place places refl refl (front_one (codes " ") _ _ size.1) in
    record { id = id.0; size = size.0; place = ap InArea offset.0; rest = front_one (10 ∷ []) r s offset.1 }
object_text_one i j m n (FromEntry a) (FromEntry b) r s is others small other place places e =
    let whole = sym (object_parts (codes "incoming ") (decimal (text_number i)) (codes " ") (decimal m) (codes " ") (signed_decimal a) (10 ∷ []) r)
    ∙ (e ∙ object_parts (codes "incoming ") (decimal (text_number j)) (codes " ") (decimal n) (codes " ") (signed_decimal b) (10 ∷ []) s) in
    let id = number_one (text_number i) (text_number j) _ _ (text_small i place.1 is) (text_small j places.1 others) refl refl
    (front_one (codes "incoming ") _ _ whole) in
    let size = number_one m n _ _ small other refl refl (front_one (codes " ") _ _ id.1) in
    let offset = signed_one a b _ _ place.0 places.0 refl refl (front_one (codes " ") _ _ size.1) in
    record { id = fixed_one i j place.1 places.1 id.0; size = size.0; place = ap FromEntry offset.0; rest = front_one (10 ∷ []) r s offset.1 }
object_text_one i j m n (InArea a) (FromEntry b) r s is others small other place places e = absurd (apart 111 105 _ _ refl e)
object_text_one i j m n (FromEntry a) (InArea b) r s is others small other place places e = absurd (apart 105 111 _ _ refl e)

pub object_line_one : (x y : ListedObject) (r s : List ℕ) → IsPrintableObject x → IsPrintableObject y → object_line x ++ r ≡ object_line y ++ s →
    (x ≡ y) × (r ≡ s)
object_line_one x y r s is others e =
    let one = object_text_one x.id y.id x.size y.size x.place y.place r s is.id others.id is.size others.size is.place others.place e in
    (λ k. record { id = one.id k; size = one.size k; place = one.place k }, one.rest)

-- ---- an item's line

position_parts : (a b c d e rest : List ℕ) → ((a ++ b ++ c ++ d) ++ e) ++ rest ≡ a ++ (b ++ (c ++ (d ++ (e ++ rest))))
position_parts a b c d e rest = simp append_assoc

position_one : (sign : List ℕ) (p q : Pos) (r s : List ℕ) → HasNumbersAt p → HasNumbersAt q →
    (position_text sign p ++ codes " ") ++ r ≡ (position_text sign q ++ codes " ") ++ s → (p ≡ q) × (r ≡ s)
position_one sign p q r s is others e =
    let whole = sym (position_parts sign (decimal p.block) (codes ".") (decimal p.item) (codes " ") r) ∙ (e ∙
    position_parts sign (decimal q.block) (codes ".") (decimal q.item) (codes " ") s) in
    let block = number_one p.block q.block _ _ is.0 others.0 refl refl (front_one sign _ _ whole) in
    let item = number_one p.item q.item (codes " " ++ r) (codes " " ++ s) is.1 others.1 refl refl (front_one (codes ".") _ _ block.1) in
    (λ k. record { block = block.0 k; item = item.0 k }, front_one (codes " ") r s item.1)

signs_apart : (p q : Pos) (r s : List ℕ) → (position_text (codes " =") p ++ codes " ") ++ r ≡ (position_text (codes " <") q ++ codes " ") ++ s → ⊥
signs_apart p q r s e = apart 61 60 _ _ refl (front_one (codes " ") _ _ e)

pub origin_one : (a b : Origin) (r s : List ℕ) → IsPrintableOrigin a → IsPrintableOrigin b → spaced_origin a ++ r ≡ spaced_origin b ++ s → (a ≡ b) × (r ≡ s)
origin_one (Kept p) (Kept q) r s is others e = let found = position_one (codes " =") p q r s is others e in (ap Kept found.0, found.1)
origin_one (Before p) (Before q) r s is others e = let found = position_one (codes " <") p q r s is others e in (ap Before found.0, found.1)
origin_one (Kept p) (Before q) r s is others e = absurd (signs_apart p q r s e)
origin_one (Before p) (Kept q) r s is others e = absurd (signs_apart q p s r (sym e))

pub no_address : (a : ℕ) (r s : List ℕ) → IsNumber a → address_text a ++ r ≡ codes "-" ++ s → ⊥
no_address a r s small e =
    let is = address_heads a r small in
    let both : is.first ∷ is.second ∷ is.rest ≡ 45 ∷ s = sym is.parts ∙ e in
    let same : is.first ≡ 45 = cc in
    omega (arith, same, is.first_low)

pub start_one : (a b : Option ℕ) (r s : List ℕ) → IfSome a IsNumber → IfSome b IsNumber → start_text a ++ r ≡ start_text b ++ s → (a ≡ b) × (r ≡ s)
start_one None None r s is others e = (refl, front_one (codes "-") r s e)
start_one (Some m) (Some n) r s is others e = let found = address_one m n r s e in (ap (λ (k : ℕ). Some k) found.0, found.1)
start_one None (Some n) r s is others e = absurd (no_address n s r others (sym e))
start_one (Some m) None r s is others e = absurd (no_address m r s is e)

pub line_parts : (a b c d rest : List ℕ) → (a ++ b ++ c ++ d) ++ rest ≡ a ++ (b ++ (c ++ (d ++ rest)))
line_parts a b c d rest = simp append_assoc

pub item_one : (inlined : ℕ → Option ℕ) (l m : ItemLine) (r s : List ℕ) → IsPrintableItem inlined l → IsPrintableItem inlined m →
    item_line l ++ r ≡ item_line m ++ s → (l ≡ m) × (r ≡ s)
item_one inlined l m r s is others e =
    let whole = sym (line_parts (start_text l.address) (spaced_origin l.item.origin) (item_text l.item) (10 ∷ []) r) ∙ (e ∙
    line_parts (start_text m.address) (spaced_origin m.item.origin) (item_text m.item) (10 ∷ []) s) in
    let start = start_one l.address m.address _ _ is.address others.address whole in
    let origin = origin_one l.item.origin m.item.origin _ _ is.origin others.origin start.1 in
    let item = item_line_one (declared_by inlined) l.item m.item is.item others.item r s origin.1 in
    let same : l.item ≡ m.item = λ k. record { kind = item.0 k; origin = origin.0 k; loc = item.1 k } in
    (λ k. record { address = start.0 k; item = same k }, item.2)

-- ---- a block's line

pub block_line_one : (m n : ℕ) (r s : List ℕ) → IsNumber m → IsNumber n → block_line m ++ r ≡ block_line n ++ s → (m ≡ n) × (r ≡ s)
block_line_one m n r s small other e =
    let whole = sym (block_parts (codes "block ") (decimal m) (10 ∷ []) r) ∙ (e ∙ block_parts (codes "block ") (decimal n) (10 ∷ []) s) in
    let found = number_one m n (10 ∷ r) (10 ∷ s) small other refl refl (front_one (codes "block ") _ _ whole) in
    (found.0, front_one (10 ∷ []) r s found.1)
  where
    block_parts : (a b c rest : List ℕ) → (a ++ b ++ c) ++ rest ≡ a ++ (b ++ (c ++ rest))
    block_parts a b c rest = simp append_assoc
