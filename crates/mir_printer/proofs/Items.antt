-- The item that a text stands for.
use Rattle.std.proofs.Common.{◌≡◌, ℕ, ℤ, pos, ◌-◌, ◌*◌, ◌<◌, ◌≤◌, Bool, true, false, nat_lt, List, [], ◌∷◌, ◌++◌, Option, Some, None, refl, sym, ap, ◌∙◌}
use Rattle.std.proofs.Common.{append_assoc, arith}
use Rattle.std.specs.Prelude.{codes, IfSome}
use Rattle.std.specs.Fmt.{decimal, signed_decimal}
use Rattle.std.proofs.lemmas.Fmt.{decimal_digit}
use Rattle.rv64_instr.specs.Instruction.{Instruction}
use Rattle.rv64_instr.specs.declared.place.Place.{Place}
use Rattle.rv64_instr.specs.declared.place.Place.TheVariants.{Register, Slot, Const}
use Rattle.rv64_instr.specs.Form.{IsSigned}
use Rattle.mir_func.specs.declared.location.Loc.{Loc}
use Rattle.mir_func.specs.declared.location.Loc.TheVariants.{Absent, Node, Inline}
use Rattle.mir_func.specs.declared.location.InlineLoc.{InlineLoc}
use Rattle.mir_func.specs.Parts.{Bytes, IsPart}
use Rattle.mir_func.specs.declared.debug_substitution.OperandPair.{OperandPair}
use Rattle.mir_func.specs.declared.variable.VarId.{VarId}
use Rattle.mir_func.specs.declared.variable.MarkValue.{MarkValue}
use Rattle.mir_func.specs.declared.variable.MarkValue.TheVariants.{Nothing, Constant, At, Pair}
use Rattle.mir_func.specs.declared.item.Item.{Item}
use Rattle.mir_func.specs.declared.item.ItemKind.{ItemKind}
use Rattle.mir_func.specs.declared.item.ItemKind.TheVariants.{Code, Mark, Phi}
use Rattle.mir_printer.specs.Spelling.{register_text, instruction_text, number_text, phi_place_text, expression_text, pair_expression_text, value_mark_text}
use Rattle.mir_printer.specs.Spelling.{mark_text, kind_text, inlined_at_text, location_text, is_volatile_kind, with_memory_operand, item_text}
use Rattle.mir_printer.specs.Printable.{IsNumber, IsPrintableInstruction, IsPrintablePlace, IsPrintableValue, IsPrintableLoc, IsPrintableVariable}
use Rattle.mir_printer.specs.Printable.{IsPrintableKind, IsPrintable, Declared, inlined_at}
use Rattle.mir_printer.proofs.Cuts.{front_one, apart, Stops, is_digit, decimal_head, signed_one, signed_head}
use Rattle.mir_printer.proofs.Operands.{goes_on, wide, number_one, register_one}
use Rattle.mir_printer.proofs.Instructions.{EndsInstruction, instruction_one, instruction_begins}

some_number : (m n : ℕ) → m ≡ n → Some m ≡ Some n
some_number m n e = ap (λ (k : ℕ). Some k) e

-- a digit is no `-`, no `$` and no `%`
digit_apart : (n b : ℕ) (r s : List ℕ) → IsNumber n → (48 ≤ b → b ≤ 57 → ⊥) → decimal n ++ r ≡ b ∷ s → ⊥
digit_apart n b r s small other e =
    let is = decimal_head n r (wide n small) in
    let both : is.0 ∷ is.1 ≡ b ∷ s = sym is.2 ∙ e in
    let same : is.0 ≡ b = cc in
    other (omega (arith, same, is.3)) (omega (arith, same, is.4))

sign_apart : (i : ℤ) (b : ℕ) (r s : List ℕ) → IsSigned i → (45 ≤ b → b ≤ 57 → ⊥) → signed_decimal i ++ r ≡ b ∷ s → ⊥
sign_apart i b r s small other e =
    let is = signed_head i r small in
    let both : is.0 ∷ is.1 ≡ b ∷ s = sym is.2 ∙ e in
    let same : is.0 ≡ b = cc in
    other (omega (arith, same, is.3)) (omega (arith, same, is.4))

-- ---- locations, up to the end of the line

abbrev inlined_before : Option ℕ → List ℕ → List ℕ
inlined_before None rest = codes ")" ++ rest
inlined_before (Some n) rest = codes ", inlinedAt: !" ++ (decimal n ++ (codes ")" ++ rest))

abbrev inline_before : InlineLoc → List ℕ → List ℕ
inline_before l rest = decimal l.line ++ (codes ", column: " ++
    (decimal l.column ++ (codes ", scope: !" ++ (decimal l.scope ++ inlined_before l.inlined_at rest))))

-- behind `, debug-location !`
abbrev node_before : Loc → List ℕ → List ℕ
node_before Absent rest = rest
node_before (Node n) rest = decimal n ++ rest
node_before (Inline l) rest = codes "DILocation(line: " ++ inline_before l rest

abbrev location_before : Loc → List ℕ → List ℕ
location_before Absent rest = rest
location_before (Node n) rest = codes ", debug-location !" ++ (decimal n ++ rest)
location_before (Inline l) rest = codes ", debug-location !DILocation(line: " ++ inline_before l rest

inline_parts : (a b c d e f g h rest : List ℕ) → (a ++ b ++ c ++ d ++ e ++ f ++ g ++ h) ++ rest ≡ a ++ (b ++ (c ++ (d ++ (e ++ (f ++ (g ++ (h ++ rest)))))))
inline_parts a b c d e f g h rest = simp append_assoc

inlined_is : (o : Option ℕ) (rest : List ℕ) → inlined_at_text o ++ (codes ")" ++ rest) ≡ inlined_before o rest
inlined_is None rest = refl
inlined_is (Some n) rest = append_assoc (codes ", inlinedAt: !") (decimal n) (codes ")" ++ rest)

location_is : (l : Loc) (rest : List ℕ) → location_text l ++ rest ≡ location_before l rest
location_is Absent rest = refl
location_is (Node n) rest = append_assoc (codes ", debug-location !") (decimal n) rest
location_is (Inline l) rest =
    inline_parts (codes ", debug-location !DILocation(line: ") (decimal l.line) (codes ", column: ") (decimal l.column) (codes ", scope: !") (decimal l.scope)
    (inlined_at_text l.inlined_at) (codes ")") rest
    ∙ ap (λ (t : List ℕ). codes ", debug-location !DILocation(line: " ++
    (decimal l.line ++ (codes ", column: " ++ (decimal l.column ++ (codes ", scope: !" ++ (decimal l.scope ++ t)))))) (inlined_is l.inlined_at rest)

inlined_stops : (o : Option ℕ) (rest : List ℕ) → Stops is_digit (inlined_before o rest)
inlined_stops None rest = refl
inlined_stops (Some n) rest = refl

inlined_one : (a b : Option ℕ) (r s : List ℕ) → IfSome a IsNumber → IfSome b IsNumber → inlined_before a r ≡ inlined_before b s → (a ≡ b) × (r ≡ s)
inlined_one None None r s small other e = (refl, front_one (codes ")") r s e)
inlined_one None (Some n) r s small other e = absurd (apart 41 44 r (codes " inlinedAt: !" ++ (decimal n ++ (codes ")" ++ s))) refl e)
inlined_one (Some m) None r s small other e = absurd (apart 44 41 (codes " inlinedAt: !" ++ (decimal m ++ (codes ")" ++ r))) s refl e)
inlined_one (Some m) (Some n) r s small other e =
    let found = number_one m n (codes ")" ++ r) (codes ")" ++ s) small other refl refl
    (front_one (codes ", inlinedAt: !") (decimal m ++ (codes ")" ++ r)) (decimal n ++ (codes ")" ++ s)) e) in
    (some_number m n found.0, front_one (codes ")") r s found.1)

inline_one : (a b : InlineLoc) (r s : List ℕ) → IsPrintableLoc (Inline a) → IsPrintableLoc (Inline b) → inline_before a r ≡ inline_before b s →
    (a ≡ b) × (r ≡ s)
inline_one a b r s is others e =
    let line = number_one a.line b.line _ _ is.0 others.0 refl refl e in
    let column = number_one a.column b.column _ _ is.1 others.1 refl refl (front_one (codes ", column: ") _ _ line.1) in
    let scope = number_one a.scope b.scope _ _ is.2 others.2 (inlined_stops a.inlined_at r) (inlined_stops b.inlined_at s)
    (front_one (codes ", scope: !") _ _ column.1) in
    let inlined = inlined_one a.inlined_at b.inlined_at r s is.3 others.3 scope.1 in
    (λ k. record { line = line.0 k; column = column.0 k; scope = scope.0 k; inlined_at = inlined.0 k }, inlined.1)

-- what follows an item: its memory operand, if it is volatile, and the end of the line
abbrev pub ending : (volatile : Bool) → List ℕ → List ℕ
ending true rest = codes " :: (volatile load)" ++ (10 ∷ rest)
ending false rest = 10 ∷ rest

-- what may follow an item
record EndsLine (text : List ℕ) : Type 0 where
  instruction : EndsInstruction text
  comma : (rest : List ℕ) → text ≡ 44 ∷ rest → ⊥

ending_ends : (volatile : Bool) (r : List ℕ) → EndsLine (ending volatile r)
ending_ends true r = record {
  instruction = record { tail = record { follows = record { digits = refl; bare = refl; space = refl }; ends = refl; blank = refl }; letter = refl };
  comma = λ rest e. apart 32 44 (codes ":: (volatile load)" ++ (10 ∷ r)) rest refl e;
}
ending_ends false r = record {
  instruction = record { tail = record { follows = record { digits = refl; bare = refl; space = refl }; ends = no_more r; blank = refl }; letter = refl };
  comma = λ rest e. apart 10 44 r rest refl e;
} where
  no_more : (r : List ℕ) → goes_on (10 ∷ r) ≡ false
  no_more [] = refl
  no_more (a ∷ []) = refl
  no_more (a ∷ b ∷ bs) = refl

ending_one : (v w : Bool) (r s : List ℕ) → ending v r ≡ ending w s → (v ≡ w) × (r ≡ s)
ending_one true true r s e = (refl, front_one (10 ∷ []) r s (front_one (codes " :: (volatile load)") (10 ∷ r) (10 ∷ s) e))
ending_one true false r s e = absurd (apart 32 10 (codes ":: (volatile load)" ++ (10 ∷ r)) s refl e)
ending_one false true r s e = absurd (apart 10 32 r (codes ":: (volatile load)" ++ (10 ∷ s)) refl e)
ending_one false false r s e = (refl, front_one (10 ∷ []) r s e)

-- one location, where what follows is the end of an item
location_one : (l m : Loc) (t u : List ℕ) → EndsLine t → EndsLine u → IsPrintableLoc l → IsPrintableLoc m → location_before l t ≡ location_before m u →
    (l ≡ m) × (t ≡ u)
location_one Absent Absent t u end ends is others e = (refl, e)
location_one (Node m) (Node n) t u end ends is others e =
    let found = number_one m n t u is others end.instruction.tail.follows.digits ends.instruction.tail.follows.digits
    (front_one (codes ", debug-location !") (decimal m ++ t) (decimal n ++ u) e) in
    (ap Node found.0, found.1)
location_one (Inline l) (Inline m) t u end ends is others e =
    let found = inline_one l m t u is others (front_one (codes ", debug-location !DILocation(line: ") _ _ e) in
    (ap Inline found.0, found.1)
location_one Absent (Node n) t u end ends is others e = absurd (end.comma (codes " debug-location !" ++ (decimal n ++ u)) e)
location_one (Node n) Absent t u end ends is others e = absurd (ends.comma (codes " debug-location !" ++ (decimal n ++ t)) (sym e))
location_one Absent (Inline l) t u end ends is others e = absurd (end.comma (codes " debug-location !DILocation(line: " ++ inline_before l u) e)
location_one (Inline l) Absent t u end ends is others e = absurd (ends.comma (codes " debug-location !DILocation(line: " ++ inline_before l t) (sym e))
location_one (Node n) (Inline l) t u end ends is others e =
    absurd (digit_apart n 68 t (codes "ILocation(line: " ++ inline_before l u) is (λ low high. omega arith)
    (front_one (codes ", debug-location !") (decimal n ++ t) _ e))
location_one (Inline l) (Node n) t u end ends is others e =
    absurd (digit_apart n 68 u (codes "ILocation(line: " ++ inline_before l t) others (λ low high. omega arith)
    (front_one (codes ", debug-location !") (decimal n ++ u) _ (sym e)))

-- ---- debug instruction numbers, and the locations behind them

abbrev number_before : Option ℕ → List ℕ → List ℕ
number_before None rest = rest
number_before (Some k) rest = codes ", debug-instr-number " ++ (decimal k ++ rest)

number_is : (k : Option ℕ) (rest : List ℕ) → number_text k ++ rest ≡ number_before k rest
number_is None rest = refl
number_is (Some k) rest = append_assoc (codes ", debug-instr-number ") (decimal k) rest

location_ends : (l : Loc) (t : List ℕ) → EndsLine t → EndsInstruction (location_before l t)
location_ends Absent t end = end.instruction
location_ends (Node n) t end =
    record { tail = record { follows = record { digits = refl; bare = refl; space = refl }; ends = refl; blank = refl }; letter = refl }
location_ends (Inline l) t end =
    record { tail = record { follows = record { digits = refl; bare = refl; space = refl }; ends = refl; blank = refl }; letter = refl }

number_ends : (k : Option ℕ) (l : Loc) (t : List ℕ) → EndsLine t → EndsInstruction (number_before k (location_before l t))
number_ends None l t end = location_ends l t end
number_ends (Some k) l t end =
    record { tail = record { follows = record { digits = refl; bare = refl; space = refl }; ends = refl; blank = refl }; letter = refl }

location_stops : (l : Loc) (t : List ℕ) → EndsLine t → Stops is_digit (location_before l t)
location_stops Absent t end = end.instruction.tail.follows.digits
location_stops (Node n) t end = refl
location_stops (Inline l) t end = refl

-- a number is no location
number_apart : (k : ℕ) (l : Loc) (r t : List ℕ) → EndsLine t → codes ", debug-instr-number " ++ r ≡ location_before l t → ⊥
number_apart k Absent r t end e = end.comma (codes " debug-instr-number " ++ r) (sym e)
number_apart k (Node n) r t end e = apart 105 108 (codes "nstr-number " ++ r) (codes "ocation !" ++ (decimal n ++ t)) refl (front_one (codes ", debug-") _ _ e)
number_apart k (Inline l) r t end e = apart 105 108 (codes "nstr-number " ++ r) (codes "ocation !DILocation(line: " ++ inline_before l t) refl
    (front_one (codes ", debug-") _ _ e)

numbers_one : (j k : Option ℕ) (l m : Loc) (t u : List ℕ) → EndsLine t → EndsLine u → IfSome j IsNumber → IfSome k IsNumber → IsPrintableLoc l →
    IsPrintableLoc m →
    number_before j (location_before l t) ≡ number_before k (location_before m u) → (j ≡ k) × (l ≡ m) × (t ≡ u)
numbers_one None None l m t u end ends small other is others e = let found = location_one l m t u end ends is others e in (refl, found.0, found.1)
numbers_one None (Some k) l m t u end ends small other is others e = absurd (number_apart k l (decimal k ++ location_before m u) t end (sym e))
numbers_one (Some j) None l m t u end ends small other is others e = absurd (number_apart j m (decimal j ++ location_before l t) u ends e)
numbers_one (Some j) (Some k) l m t u end ends small other is others e =
    let number = number_one j k (location_before l t) (location_before m u) small other (location_stops l t end) (location_stops m u ends)
    (front_one (codes ", debug-instr-number ") _ _ e) in
    let found = location_one l m t u end ends is others number.1 in
    (some_number j k number.0, found.0, found.1)

-- ---- values of marks, and places of phis, each before a comma

abbrev value_text : MarkValue → List ℕ
value_text Nothing = codes "$noreg"
value_text (Constant c) = signed_decimal c
value_text (At r) = register_text r
value_text (Pair q) = []

-- a register begins with `$x` or `%`
not_noreg : (p : Bool) (n : ℕ) (r s : List ℕ) → nat_lt n 32 ≡ p → register_text n ++ r ≡ codes "$noreg" ++ s → ⊥
not_noreg true n r s is e =
    let named : codes "$x" ++ (decimal n ++ r) ≡ codes "$noreg" ++ s = rw is at e in
    apart 120 110 (decimal n ++ r) (codes "oreg" ++ s) refl (front_one (codes "$") _ _ named)
not_noreg false n r s is e =
    let named : codes "%" ++ (decimal (n - 32) ++ r) ≡ codes "$noreg" ++ s = rw is at e in
    apart 37 36 (decimal (n - 32) ++ r) (codes "noreg" ++ s) refl named

not_signed : (p : Bool) (n : ℕ) (i : ℤ) (r s : List ℕ) → nat_lt n 32 ≡ p → IsSigned i → signed_decimal i ++ s ≡ register_text n ++ r → ⊥
not_signed true n i r s is small e =
    let named : signed_decimal i ++ s ≡ codes "$x" ++ (decimal n ++ r) = rw is at e in
    sign_apart i 36 s (120 ∷ (decimal n ++ r)) small (λ low high. omega arith) named
not_signed false n i r s is small e =
    let named : signed_decimal i ++ s ≡ codes "%" ++ (decimal (n - 32) ++ r) = rw is at e in
    sign_apart i 37 s (decimal (n - 32) ++ r) small (λ low high. omega arith) named

-- a value that isn't a pair
abbrev is_value : MarkValue → Bool
is_value (Pair q) = false
is_value m = true

value_one : (m n : MarkValue) (r s : List ℕ) → is_value m ≡ true → is_value n ≡ true → IsPrintableValue m → IsPrintableValue n → Stops is_digit r →
    Stops is_digit s →
    value_text m ++ r ≡ value_text n ++ s → (m ≡ n) × (r ≡ s)
value_one Nothing Nothing r s v w is others stop stops e = (refl, front_one (codes "$noreg") r s e)
value_one (Constant c) (Constant d) r s v w is others stop stops e = let found = signed_one c d r s is others stop stops e in (ap Constant found.0, found.1)
value_one (At m) (At n) r s v w is others stop stops e = let found = register_one m n r s is others stop stops e in (ap At found.0, found.1)
value_one Nothing (Constant c) r s v w is others stop stops e = absurd (sign_apart c 36 s (codes "noreg" ++ r) others (λ low high. omega arith) (sym e))
value_one (Constant c) Nothing r s v w is others stop stops e = absurd (sign_apart c 36 r (codes "noreg" ++ s) is (λ low high. omega arith) e)
value_one Nothing (At n) r s v w is others stop stops e = absurd (not_noreg (nat_lt n 32) n s r refl (sym e))
value_one (At n) Nothing r s v w is others stop stops e = absurd (not_noreg (nat_lt n 32) n r s refl e)
value_one (Constant c) (At n) r s v w is others stop stops e = absurd (not_signed (nat_lt n 32) n c s r refl is e)
value_one (At n) (Constant c) r s v w is others stop stops e = absurd (not_signed (nat_lt n 32) n c r s refl others (sym e))
value_one m n r s v w is others stop stops e = absurd cc

place_zero : (p : Bool) (n : ℕ) (r s : List ℕ) → nat_lt n 32 ≡ p → 0 < n → IsNumber n → Stops is_digit r → Stops is_digit s →
    register_text n ++ r ≡ codes "$x0" ++ s → ⊥
place_zero true n r s is some small stop stops e =
    let named : codes "$x" ++ (decimal n ++ r) ≡ codes "$x" ++ (codes "0" ++ s) = rw is at e in
    let zero : decimal n ++ r ≡ decimal 0 ++ s = front_one (codes "$x") (decimal n ++ r) (codes "0" ++ s) named ∙ ap (λ (t : List ℕ). t ++ s)
    (sym (decimal_digit 0 (omega arith))) in
    omega (arith, (number_one n 0 r s small (omega arith) stop stops zero).0)
place_zero false n r s is some small stop stops e =
    let named : codes "%" ++ (decimal (n - 32) ++ r) ≡ codes "$x0" ++ s = rw is at e in
    apart 37 36 (decimal (n - 32) ++ r) (codes "x0" ++ s) refl named

short : (n : ℕ) → IsNumber n → IsNumber (n - 32)
short n small = omega arith

not_stack : (p : Bool) (n : ℕ) (r s : List ℕ) → nat_lt n 32 ≡ p → IsNumber n → register_text n ++ r ≡ codes "%stack." ++ s → ⊥
not_stack true n r s is small e =
    let named : codes "$x" ++ (decimal n ++ r) ≡ codes "%stack." ++ s = rw is at e in
    apart 36 37 (120 ∷ (decimal n ++ r)) (codes "stack." ++ s) refl named
not_stack false n r s is small e =
    let named : codes "%" ++ (decimal (n - 32) ++ r) ≡ codes "%stack." ++ s = rw is at e in
    digit_apart (n - 32) 115 r (codes "tack." ++ s) (short n small) (λ low high. omega arith)
    (front_one (codes "%") (decimal (n - 32) ++ r) (codes "stack." ++ s) named)

const_one : (c d : ℤ) → c ≡ pos 0 → d ≡ pos 0 → Some (Const c) ≡ Some (Const d)
const_one c d is others = ap (λ (i : ℤ). Some (Const i)) (is ∙ sym others)

place_one : (p q : Option Place) (r s : List ℕ) → IsPrintablePlace p → IsPrintablePlace q → Stops is_digit r → Stops is_digit s →
    phi_place_text p ++ r ≡ phi_place_text q ++ s → (p ≡ q) × (r ≡ s)
place_one None None r s is others stop stops e = (refl, front_one (codes "$noreg") r s e)
place_one (Some (Register m)) (Some (Register n)) r s is others stop stops e =
    let found = register_one m n r s is.1 others.1 stop stops e in (ap (λ (k : ℕ). Some (Register k)) found.0, found.1)
place_one (Some (Slot m)) (Some (Slot n)) r s is others stop stops e =
    let found = number_one m n r s is others stop stops (front_one (codes "%stack.") (decimal m ++ r) (decimal n ++ s) e) in
    (ap (λ (k : ℕ). Some (Slot k)) found.0, found.1)
place_one (Some (Const c)) (Some (Const d)) r s is others stop stops e = (const_one c d is others, front_one (codes "$x0") r s e)
place_one None (Some (Register n)) r s is others stop stops e = absurd (not_noreg (nat_lt n 32) n s r refl (sym e))
place_one (Some (Register n)) None r s is others stop stops e = absurd (not_noreg (nat_lt n 32) n r s refl e)
place_one None (Some (Slot n)) r s is others stop stops e = absurd (apart 36 37 (codes "noreg" ++ r) (codes "stack." ++ (decimal n ++ s)) refl e)
place_one (Some (Slot n)) None r s is others stop stops e = absurd (apart 36 37 (codes "noreg" ++ s) (codes "stack." ++ (decimal n ++ r)) refl (sym e))
place_one None (Some (Const c)) r s is others stop stops e = absurd
    (apart 110 120 (codes "oreg" ++ r) (codes "0" ++ s) refl (front_one (codes "$") (codes "noreg" ++ r) (codes "x0" ++ s) e))
place_one (Some (Const c)) None r s is others stop stops e = absurd
    (apart 110 120 (codes "oreg" ++ s) (codes "0" ++ r) refl (front_one (codes "$") (codes "noreg" ++ s) (codes "x0" ++ r) (sym e)))
place_one (Some (Register m)) (Some (Slot n)) r s is others stop stops e = absurd (not_stack (nat_lt m 32) m r (decimal n ++ s) refl is.1 e)
place_one (Some (Slot n)) (Some (Register m)) r s is others stop stops e = absurd (not_stack (nat_lt m 32) m s (decimal n ++ r) refl others.1 (sym e))
place_one (Some (Register m)) (Some (Const c)) r s is others stop stops e = absurd (place_zero (nat_lt m 32) m r s refl is.0 is.1 stop stops e)
place_one (Some (Const c)) (Some (Register m)) r s is others stop stops e = absurd (place_zero (nat_lt m 32) m s r refl others.0 others.1 stops stop (sym e))
place_one (Some (Slot n)) (Some (Const c)) r s is others stop stops e = absurd (apart 37 36 (codes "stack." ++ (decimal n ++ r)) (codes "x0" ++ s) refl e)
place_one (Some (Const c)) (Some (Slot n)) r s is others stop stops e = absurd (apart 37 36 (codes "stack." ++ (decimal n ++ s)) (codes "x0" ++ r) refl (sym e))

-- ---- marks

-- the offset and the length of a fragment, and the bracket behind them
abbrev fragment_before : Bytes → List ℕ → List ℕ
fragment_before b rest = codes "DW_OP_LLVM_fragment, " ++ (decimal (8 * b.offset) ++ (codes ", " ++ (decimal (8 * b.length) ++ (codes ")" ++ rest))))

abbrev expression_before : Option Bytes → List ℕ → List ℕ
expression_before None rest = codes "!DIExpression()" ++ rest
expression_before (Some b) rest = codes "!DIExpression(" ++ fragment_before b rest

abbrev pair_expression_before : Option Bytes → List ℕ → List ℕ
pair_expression_before None rest = codes "!DIExpression(DW_OP_LLVM_arg, 0)" ++ rest
pair_expression_before (Some b) rest = codes "!DIExpression(DW_OP_LLVM_arg, 0, " ++ fragment_before b rest

abbrev variable_before : VarId → List ℕ → List ℕ
variable_before v rest = codes ", $noreg, !" ++ (decimal v.node ++ (codes ", " ++ expression_before v.fragment rest))

-- behind the expression of a pair
abbrev operands_before : OperandPair → List ℕ → List ℕ
operands_before q rest = codes ", dbg-instr-ref(" ++ (decimal q.number ++ (codes ", " ++ (decimal q.operand ++ (codes ")" ++ rest))))

abbrev pair_before : VarId → OperandPair → List ℕ → List ℕ
pair_before v q rest = decimal v.node ++ (codes ", " ++ pair_expression_before v.fragment (operands_before q rest))

abbrev mark_before : VarId → MarkValue → List ℕ → List ℕ
mark_before v (Pair q) rest = codes "DBG_INSTR_REF !" ++ pair_before v q rest
mark_before v m rest = codes "DBG_VALUE " ++ (value_text m ++ variable_before v rest)

closed_parts : (a b c d e f rest : List ℕ) → (a ++ (b ++ c ++ d ++ e) ++ f) ++ rest ≡ a ++ (b ++ (c ++ (d ++ (e ++ (f ++ rest)))))
closed_parts a b c d e f rest = simp append_assoc

expression_is : (o : Option Bytes) (rest : List ℕ) → expression_text o ++ rest ≡ expression_before o rest
expression_is None rest = refl
expression_is (Some b) rest =
    closed_parts (codes "!DIExpression(") (codes "DW_OP_LLVM_fragment, ") (decimal (8 * b.offset)) (codes ", ") (decimal (8 * b.length)) (codes ")") rest

pair_expression_is : (o : Option Bytes) (rest : List ℕ) → pair_expression_text o ++ rest ≡ pair_expression_before o rest
pair_expression_is None rest = refl
pair_expression_is (Some b) rest =
    closed_parts (codes "!DIExpression(DW_OP_LLVM_arg, 0, ") (codes "DW_OP_LLVM_fragment, ") (decimal (8 * b.offset)) (codes ", ") (decimal (8 * b.length))
    (codes ")") rest

value_parts : (a b c d e f rest : List ℕ) → (a ++ b ++ (c ++ d ++ e ++ f)) ++ rest ≡ a ++ (b ++ (c ++ (d ++ (e ++ (f ++ rest)))))
value_parts a b c d e f rest = simp append_assoc

pair_parts : (a b c d e f g h i rest : List ℕ) → (a ++ b ++ c ++ d ++ e ++ f ++ g ++ h ++ i) ++ rest ≡ a ++
    (b ++ (c ++ (d ++ (e ++ (f ++ (g ++ (h ++ (i ++ rest))))))))
pair_parts a b c d e f g h i rest = simp append_assoc

value_mark_is : (value : List ℕ) (v : VarId) (rest : List ℕ) → value_mark_text value v ++ rest ≡ codes "DBG_VALUE " ++ (value ++ variable_before v rest)
value_mark_is value v rest =
    value_parts (codes "DBG_VALUE ") value (codes ", $noreg, !") (decimal v.node) (codes ", ") (expression_text v.fragment) rest
    ∙ ap (λ (t : List ℕ). codes "DBG_VALUE " ++ (value ++ (codes ", $noreg, !" ++ (decimal v.node ++ (codes ", " ++ t))))) (expression_is v.fragment rest)

mark_is : (v : VarId) (m : MarkValue) (rest : List ℕ) → mark_text v m ++ rest ≡ mark_before v m rest
mark_is v Nothing rest = value_mark_is (codes "$noreg") v rest
mark_is v (Constant c) rest = value_mark_is (signed_decimal c) v rest
mark_is v (At n) rest = value_mark_is (register_text n) v rest
mark_is v (Pair q) rest =
    pair_parts (codes "DBG_INSTR_REF !") (decimal v.node) (codes ", ") (pair_expression_text v.fragment) (codes ", dbg-instr-ref(") (decimal q.number)
    (codes ", ") (decimal q.operand) (codes ")") rest
    ∙ ap (λ (t : List ℕ). codes "DBG_INSTR_REF !" ++ (decimal v.node ++ (codes ", " ++ t))) (pair_expression_is v.fragment (operands_before q rest))

-- the bits of so many bytes
bits_one : (m n : ℕ) (r s : List ℕ) → m ≤ 8192 → n ≤ 8192 → Stops is_digit r → Stops is_digit s → decimal (8 * m) ++ r ≡ decimal (8 * n) ++ s →
    (m ≡ n) × (r ≡ s)
bits_one m n r s small other stop stops e =
    let found = number_one (8 * m) (8 * n) r s (few m small) (few n other) stop stops e in
    (eighth m n found.0, found.1)
  where
    few : (n : ℕ) → n ≤ 8192 → IsNumber (8 * n)
    few n small = omega arith

    eighth : (m n : ℕ) → 8 * m ≡ 8 * n → m ≡ n
    eighth m n e = omega arith

ends_within : (b : Bytes) → IsPart b → (b.offset ≤ 8192) × (b.length ≤ 8192)
ends_within b is = (omega (arith, is.2), omega (arith, is.2))

fragment_one : (a b : Bytes) (r s : List ℕ) → IsPart a → IsPart b → fragment_before a r ≡ fragment_before b s → (a ≡ b) × (r ≡ s)
fragment_one a b r s is others e =
    let left = ends_within a is in
    let right = ends_within b others in
    let offset = bits_one a.offset b.offset _ _ left.0 right.0 refl refl (front_one (codes "DW_OP_LLVM_fragment, ") _ _ e) in
    let length = bits_one a.length b.length _ _ left.1 right.1 refl refl (front_one (codes ", ") _ _ offset.1) in
    (λ k. record { offset = offset.0 k; length = length.0 k }, front_one (codes ")") r s length.1)

some_part : (a b : Bytes) → a ≡ b → Some a ≡ Some b
some_part a b e = ap (λ (p : Bytes). Some p) e

expression_one : (o p : Option Bytes) (r s : List ℕ) → IfSome o IsPart → IfSome p IsPart → expression_before o r ≡ expression_before p s → (o ≡ p) × (r ≡ s)
expression_one None None r s is others e = (refl, front_one (codes "!DIExpression()") r s e)
expression_one None (Some b) r s is others e = absurd (apart 41 68 _ _ refl (front_one (codes "!DIExpression(") _ _ e))
expression_one (Some a) None r s is others e = absurd (apart 68 41 _ _ refl (front_one (codes "!DIExpression(") _ _ e))
expression_one (Some a) (Some b) r s is others e =
    let found = fragment_one a b r s is others (front_one (codes "!DIExpression(") _ _ e) in
    (some_part a b found.0, found.1)

pair_expression_one : (o p : Option Bytes) (r s : List ℕ) → IfSome o IsPart → IfSome p IsPart → pair_expression_before o r ≡ pair_expression_before p s →
    (o ≡ p) × (r ≡ s)
pair_expression_one None None r s is others e = (refl, front_one (codes "!DIExpression(DW_OP_LLVM_arg, 0)") r s e)
pair_expression_one None (Some b) r s is others e = absurd (apart 41 44 _ _ refl (front_one (codes "!DIExpression(DW_OP_LLVM_arg, 0") _ _ e))
pair_expression_one (Some a) None r s is others e = absurd (apart 44 41 _ _ refl (front_one (codes "!DIExpression(DW_OP_LLVM_arg, 0") _ _ e))
pair_expression_one (Some a) (Some b) r s is others e =
    let found = fragment_one a b r s is others (front_one (codes "!DIExpression(DW_OP_LLVM_arg, 0, ") _ _ e) in
    (some_part a b found.0, found.1)

-- what the text of a mark says of its variable
record IsNamed (v w : VarId) : Type 0 where
  node : v.node ≡ w.node
  fragment : v.fragment ≡ w.fragment

-- the sizes of what it says
record HasSizes (v : VarId) : Type 0 where
  node : IsNumber v.node
  part : IfSome v.fragment IsPart

operands_one : (p q : OperandPair) (r s : List ℕ) → IsPrintableValue (Pair p) → IsPrintableValue (Pair q) → operands_before p r ≡ operands_before q s →
    (p ≡ q) × (r ≡ s)
operands_one p q r s is others e =
    let number = number_one p.number q.number _ _ is.0 others.0 refl refl (front_one (codes ", dbg-instr-ref(") _ _ e) in
    let operand = number_one p.operand q.operand (codes ")" ++ r) (codes ")" ++ s) is.1 others.1 refl refl (front_one (codes ", ") _ _ number.1) in
    (λ k. record { number = number.0 k; operand = operand.0 k }, front_one (codes ")") r s operand.1)

pair_one : (v w : VarId) (p q : OperandPair) (r s : List ℕ) → HasSizes v → HasSizes w → IsPrintableValue (Pair p) → IsPrintableValue (Pair q) →
    pair_before v p r ≡ pair_before w q s →
    IsNamed v w × (Pair p ≡ Pair q) × (r ≡ s)
pair_one v w p q r s small other is others e =
    let node = number_one v.node w.node _ _ small.node other.node refl refl e in
    let part = pair_expression_one v.fragment w.fragment _ _ small.part other.part (front_one (codes ", ") _ _ node.1) in
    let operands = operands_one p q r s is others part.1 in
    (record { node = node.0; fragment = part.0 }, ap Pair operands.0, operands.1)

variable_one : (v w : VarId) (r s : List ℕ) → HasSizes v → HasSizes w → variable_before v r ≡ variable_before w s → IsNamed v w × (r ≡ s)
variable_one v w r s small other e =
    let node = number_one v.node w.node _ _ small.node other.node refl refl (front_one (codes ", $noreg, !") _ _ e) in
    let part = expression_one v.fragment w.fragment r s small.part other.part (front_one (codes ", ") _ _ node.1) in
    (record { node = node.0; fragment = part.0 }, part.1)

plain_one : (v w : VarId) (m n : MarkValue) (r s : List ℕ) → is_value m ≡ true → is_value n ≡ true → HasSizes v → HasSizes w → IsPrintableValue m →
    IsPrintableValue n →
    codes "DBG_VALUE " ++ (value_text m ++ variable_before v r) ≡ codes "DBG_VALUE " ++ (value_text n ++ variable_before w s) → IsNamed v w × (m ≡ n) × (r ≡ s)
plain_one v w m n r s a b small other is others e =
    let value = value_one m n (variable_before v r) (variable_before w s) a b is others refl refl (front_one (codes "DBG_VALUE ") _ _ e) in
    let node = variable_one v w r s small other value.1 in
    (node.0, value.0, node.1)

mark_one : (v w : VarId) (m n : MarkValue) (r s : List ℕ) → HasSizes v → HasSizes w → IsPrintableValue m → IsPrintableValue n →
    mark_before v m r ≡ mark_before w n s →
    IsNamed v w × (m ≡ n) × (r ≡ s)
mark_one v w (Pair p) (Pair q) r s small other is others e = pair_one v w p q r s small other is others
    (front_one (codes "DBG_INSTR_REF !") (pair_before v p r) (pair_before w q s) e)
mark_one v w (Pair p) Nothing r s small other is others e = absurd (apart 73 86 _ _ refl (front_one (codes "DBG_") _ _ e))
mark_one v w (Pair p) (Constant c) r s small other is others e = absurd (apart 73 86 _ _ refl (front_one (codes "DBG_") _ _ e))
mark_one v w (Pair p) (At n) r s small other is others e = absurd (apart 73 86 _ _ refl (front_one (codes "DBG_") _ _ e))
mark_one v w Nothing (Pair q) r s small other is others e = absurd (apart 86 73 _ _ refl (front_one (codes "DBG_") _ _ e))
mark_one v w (Constant c) (Pair q) r s small other is others e = absurd (apart 86 73 _ _ refl (front_one (codes "DBG_") _ _ e))
mark_one v w (At n) (Pair q) r s small other is others e = absurd (apart 86 73 _ _ refl (front_one (codes "DBG_") _ _ e))
mark_one v w m n r s small other is others e = plain_one v w m n r s refl refl small other is others e

-- ---- items

abbrev kind_before : ItemKind → List ℕ → List ℕ → List ℕ
kind_before (Code i k) behind numbered = instruction_text i ++ numbered
kind_before (Mark v m) behind numbered = mark_before v m behind
kind_before (Phi p k) behind numbered = codes "DBG_PHI " ++ (phi_place_text p ++ (codes ", " ++ (decimal k ++ behind)))

abbrev code_number : ItemKind → Option ℕ
code_number (Code i k) = k
code_number (Mark v m) = None
code_number (Phi p k) = None

abbrev line_before : ItemKind → Loc → List ℕ → List ℕ
line_before kind l end = kind_before kind (location_before l end) (number_before (code_number kind) (location_before l end))

kind_is : (kind : ItemKind) (behind : List ℕ) → kind_text kind ++ behind ≡ kind_before kind behind (number_before (code_number kind) behind)
kind_is (Code i k) behind = append_assoc (instruction_text i) (number_text k) behind ∙ ap (λ (t : List ℕ). instruction_text i ++ t) (number_is k behind)
kind_is (Mark v m) behind = mark_is v m behind
kind_is (Phi p k) behind = phi_parts (codes "DBG_PHI ") (phi_place_text p) (codes ", ") (decimal k) behind
  where
    phi_parts : (a b c d rest : List ℕ) → (a ++ b ++ c ++ d) ++ rest ≡ a ++ (b ++ (c ++ (d ++ rest)))
    phi_parts a b c d rest = simp append_assoc

-- an item's text, up to its memory operand, and the end of the line
pub item_parts : (i : Item) (rest : List ℕ) →
    item_text i ++ 10 ∷ rest ≡ kind_text i.kind ++ (location_text i.loc ++ ending (is_volatile_kind i.kind) rest)
item_parts i rest = by (is_volatile_kind i.kind) where
  by : (volatile : Bool) → with_memory_operand volatile (kind_text i.kind ++ location_text i.loc) ++ 10 ∷ rest ≡
      kind_text i.kind ++ (location_text i.loc ++ ending volatile rest)
  by true =
      append_assoc (kind_text i.kind ++ location_text i.loc) (codes " :: (volatile load)") (10 ∷ rest)
      ∙ append_assoc (kind_text i.kind) (location_text i.loc) (ending true rest)
  by false = append_assoc (kind_text i.kind) (location_text i.loc) (10 ∷ rest)

line_is : (i : Item) (rest : List ℕ) → item_text i ++ 10 ∷ rest ≡ line_before i.kind i.loc (ending (is_volatile_kind i.kind) rest)
line_is i rest =
    let end : List ℕ = ending (is_volatile_kind i.kind) rest in
    item_parts i rest ∙ (ap (λ (t : List ℕ). kind_text i.kind ++ t) (location_is i.loc end) ∙ kind_is i.kind (location_before i.loc end))

variable_same : (v w : VarId) → IsNamed v w → v.inlined_at ≡ w.inlined_at → v ≡ w
variable_same v w named inlined = λ k. record { node = named.node k; inlined_at = inlined k; fragment = named.fragment k }

sizes_of : (declared : Declared) (l : Loc) (v : VarId) → IsPrintableVariable declared l v → HasSizes v
sizes_of declared l v is = record { node = is.node; part = is.part }

-- a mark begins with a `D`
mark_begins : (v : VarId) (m : MarkValue) (rest : List ℕ) → (t : List ℕ) × (mark_before v m rest ≡ 68 ∷ t)
mark_begins v (Pair q) rest = (codes "BG_INSTR_REF !" ++ pair_before v q rest, refl)
mark_begins v m rest = (codes "BG_VALUE " ++ (value_text m ++ variable_before v rest), refl)

code_apart : (objects : ℕ → Bool) (i : Instruction) (r t u : List ℕ) → IsPrintableInstruction objects i → t ≡ 68 ∷ u → instruction_text i ++ r ≡ t → ⊥
code_apart objects i r t u is d e = instruction_begins objects i r u is (e ∙ d)

phi_apart : (v : VarId) (m : MarkValue) (rest s : List ℕ) → mark_before v m rest ≡ codes "DBG_PHI " ++ s → ⊥
phi_apart v (Pair q) rest s e = apart 73 80 _ _ refl (front_one (codes "DBG_") _ (codes "PHI " ++ s) e)
phi_apart v m rest s e = apart 86 80 _ _ refl (front_one (codes "DBG_") _ (codes "PHI " ++ s) e)

kind_one : (declared : Declared) (x y : ItemKind) (l m : Loc) (r s : List ℕ) → IsPrintableKind declared l x → IsPrintableKind declared m y → IsPrintableLoc l →
    IsPrintableLoc m →
    line_before x l (ending (is_volatile_kind x) r) ≡ line_before y m (ending (is_volatile_kind y) s) → (x ≡ y) × (l ≡ m) × (r ≡ s)
kind_one declared (Code i j) (Code h k) l m r s is others at ats e =
    let end = ending_ends i.volatile r in
    let ends = ending_ends h.volatile s in
    let code = instruction_one declared.objects i h _ _ is.0 others.0 (number_ends j l (ending i.volatile r) end)
    (number_ends k m (ending h.volatile s) ends) e in
    let rest = numbers_one j k l m (ending i.volatile r) (ending h.volatile s) end ends is.1 others.1 at ats code.2 in
    let last = ending_one i.volatile h.volatile r s rest.2 in
    ((let first : i ≡ h = λ n. record { op = code.0 n; operands = code.1 n; volatile = last.0 n } in let number : j ≡ k = rest.0 in cc), rest.1, last.1)
kind_one declared (Mark v a) (Mark w b) l m r s is others at ats e =
    let mark = mark_one v w a b _ _ (sizes_of declared l v is.0) (sizes_of declared m w others.0) is.1 others.1 e in
    let place = location_one l m (10 ∷ r) (10 ∷ s) (ending_ends false r) (ending_ends false s) at ats mark.2 in
    let variable : v ≡ w = variable_same v w mark.0 (is.0.inlined ∙ (ap (inlined_at declared.inlined) place.0 ∙ sym others.0.inlined)) in
    ((let value : a ≡ b = mark.1 in cc), place.0, (ending_one false false r s place.1).1)
kind_one declared (Phi p j) (Phi q k) l m r s is others at ats e =
    let end = ending_ends false r in
    let ends = ending_ends false s in
    let place = place_one p q _ _ is.0 others.0 refl refl (front_one (codes "DBG_PHI ") _ _ e) in
    let number = number_one j k _ _ is.1 others.1 (location_stops l (10 ∷ r) end) (location_stops m (10 ∷ s) ends) (front_one (codes ", ") _ _ place.1) in
    let rest = location_one l m (10 ∷ r) (10 ∷ s) end ends at ats number.1 in
    ((let first : p ≡ q = place.0 in let second : j ≡ k = number.0 in cc), rest.0, (ending_one false false r s rest.1).1)
kind_one declared (Code i j) (Mark w b) l m r s is others at ats e = absurd (code_apart declared.objects i _ _ _ is.0 (mark_begins w b _).1 e)
kind_one declared (Mark v a) (Code h k) l m r s is others at ats e = absurd (code_apart declared.objects h _ _ _ others.0 (mark_begins v a _).1 (sym e))
kind_one declared (Code i j) (Phi q k) l m r s is others at ats e = absurd (instruction_begins declared.objects i _ _ is.0 e)
kind_one declared (Phi p j) (Code h k) l m r s is others at ats e = absurd (instruction_begins declared.objects h _ _ others.0 (sym e))
kind_one declared (Mark v a) (Phi q k) l m r s is others at ats e = absurd (phi_apart v a _ _ e)
kind_one declared (Phi p j) (Mark w b) l m r s is others at ats e = absurd (phi_apart w b _ _ (sym e))

pub item_line_one : (declared : Declared) (i j : Item) → IsPrintable declared i → IsPrintable declared j → (r s : List ℕ) →
    item_text i ++ 10 ∷ r ≡ item_text j ++ 10 ∷ s → (i.kind ≡ j.kind) × (i.loc ≡ j.loc) × (r ≡ s)
item_line_one declared i j is others r s e =
    kind_one declared i.kind j.kind i.loc j.loc r s is.kind others.kind is.loc others.loc (sym (line_is i r) ∙ (e ∙ line_is j s))

pub item_text_one : (declared : Declared) (i j : Item) → IsPrintable declared i → IsPrintable declared j → item_text i ≡ item_text j →
    (i.kind ≡ j.kind) × (i.loc ≡ j.loc)
item_text_one declared i j is others e =
    let found = item_line_one declared i j is others [] [] (ap (λ (t : List ℕ). t ++ 10 ∷ []) e) in
    (found.0, found.1)
