-- Values read back by their forms: what has the form and the bytes of a value is that value.
use Rattle.std.specs.Prelude.{ℤ}
use Rattle.std.specs.Int.{w16, w32, w64, from_le_bytes}
use Rattle.std.specs.List.{position_or_len}
use Rattle.std.proofs.Common.{◌≡◌, ℕ, suc, ◌+◌, ◌<◌, ◌^◌, Bool, true, false, not, cond, eqb, List, [], ◌∷◌, ◌++◌, length, take, drop, get_or, arith, ap, sym}
use Rattle.std.proofs.Common.{◌∙◌, refl, append_assoc}
use Rattle.std.specs.Prelude.{nat_lt}
use Rattle.std.proofs.lemmas.Nat.{from_le_bytes-to_le_bytes_2, from_le_bytes-to_le_bytes_4, from_le_bytes-to_le_bytes_8}
use Rattle.std.proofs.lemmas.Bool.{cond-true, cond-false, lt-ltb, le-ltb}
use Rattle.std.proofs.lemmas.List.{take_at, drop_at}
use Rattle.dwarf_base.specs.Leb.{uleb_of, sleb_of, IsLeb, unsigned_value, signed_value}
use Rattle.dwarf_base.proofs.LebLaws.{uleb_law, sleb_law}
use Rattle.dwarf_info.specs.Entries.{named}
use Rattle.dwarf_entry.specs.declared.tree.Value.{Value}
use Rattle.dwarf_entry.specs.declared.tree.Value.TheVariants.{Address, Data1, Data2, Data4, Unsigned, Signed, Text, Reference, SectionOffset, LocationList}
use Rattle.dwarf_entry.specs.declared.tree.Value.TheVariants.{RangeList, Flag, Present, Expression}
use Rattle.dwarf_entry.specs.Declarations.{form_of}
use Rattle.dwarf_entry.specs.Entries.{value_bytes}

-- ---- numbers in LEB128 at the front

abbrev leb_front : List ℕ → List ℕ
leb_front [] = []
leb_front (b ∷ rest) = cond (nat_lt b 128) (b ∷ []) (b ∷ leb_front rest)

abbrev leb_rest : List ℕ → List ℕ
leb_rest [] = []
leb_rest (b ∷ rest) = cond (nat_lt b 128) rest (leb_rest rest)

leb_front_is : (a x : List ℕ) → IsLeb a → leb_front (a ++ x) ≡ a
leb_front_is [] x is = absurd is
leb_front_is (b ∷ []) x is = cond-true (nat_lt b 128) (b ∷ []) (b ∷ leb_front x) (lt-ltb b 128 is)
leb_front_is (b ∷ c ∷ rest) x is =
    cond-false (nat_lt b 128) (b ∷ []) (b ∷ leb_front ((c ∷ rest) ++ x)) (le-ltb b 128 is.0) ∙ ap (λ (ys : List ℕ). b ∷ ys) (leb_front_is (c ∷ rest) x is.2)

leb_rest_is : (a x : List ℕ) → IsLeb a → leb_rest (a ++ x) ≡ x
leb_rest_is [] x is = absurd is
leb_rest_is (b ∷ []) x is = cond-true (nat_lt b 128) x (leb_rest x) (lt-ltb b 128 is)
leb_rest_is (b ∷ c ∷ rest) x is =
    cond-false (nat_lt b 128) ((c ∷ rest) ++ x) (leb_rest ((c ∷ rest) ++ x)) (le-ltb b 128 is.0) ∙ leb_rest_is (c ∷ rest) x is.2

uleb_read : (n : ℕ) (x : List ℕ) → unsigned_value (leb_front (uleb_of n ++ x)) ≡ n
uleb_read n x = ap unsigned_value (leb_front_is (uleb_of n) x (uleb_law n).0) ∙ (uleb_law n).1

uleb_left : (n : ℕ) (x : List ℕ) → leb_rest (uleb_of n ++ x) ≡ x
uleb_left n x = leb_rest_is (uleb_of n) x (uleb_law n).0

sleb_read : (v : ℤ) (x : List ℕ) → signed_value (leb_front (sleb_of v ++ x)) ≡ v
sleb_read v x = ap signed_value (leb_front_is (sleb_of v) x (sleb_law v).0) ∙ (sleb_law v).1

sleb_left : (v : ℤ) (x : List ℕ) → leb_rest (sleb_of v ++ x) ≡ x
sleb_left v x = leb_rest_is (sleb_of v) x (sleb_law v).0

-- ---- a string at the front

abbrev text_front : List ℕ → List ℕ
text_front [] = []
text_front (b ∷ rest) = cond (eqb b 0) [] (b ∷ text_front rest)

abbrev text_rest : List ℕ → List ℕ
text_rest [] = []
text_rest (b ∷ rest) = cond (eqb b 0) rest (text_rest rest)

named-cons : (b : ℕ) (t : List ℕ) (z : Bool) → eqb b 0 ≡ z → named (b ∷ t) ≡ cond z [] (b ∷ named t)
named-cons b t true e = ap (λ (y : Bool). take (cond (not y) (1 + position_or_len (λ c. eqb c 0) t) 0) (b ∷ t)) e
named-cons b t false e =
    let next : 1 + position_or_len (λ c. eqb c 0) t ≡ suc (position_or_len (λ c. eqb c 0) t) = omega arith in
    ap (λ (y : Bool). take (cond (not y) (1 + position_or_len (λ c. eqb c 0) t) 0) (b ∷ t)) e ∙ ap (λ (k : ℕ). take k (b ∷ t)) next

abbrev IsText : List ℕ → List ℕ → Type 0
IsText t x = (text_front ((t ++ 0 ∷ []) ++ x) ≡ t) × (text_rest ((t ++ 0 ∷ []) ++ x) ≡ x)

-- what follows a byte of a string without a zero byte
others : (b : ℕ) (t : List ℕ) (z : Bool) → eqb b 0 ≡ z → named (b ∷ t) ≡ b ∷ t → (eqb b 0 ≡ false) × (named t ≡ t)
others b t true e whole =
    let none : [] ≡ b ∷ t = sym (named-cons b t true e) ∙ whole in
    absurd cc
others b t false e whole =
    let some : b ∷ named t ≡ b ∷ t = sym (named-cons b t false e) ∙ whole in
    (e, cc)

text_is : (t x : List ℕ) → named t ≡ t → IsText t x
text_is [] x whole = (refl, refl)
text_is (b ∷ t) x whole = more (others b t (eqb b 0) refl whole) (λ w. text_is t x w)
  where
    more : (eqb b 0 ≡ false) × (named t ≡ t) → (named t ≡ t → IsText t x) → IsText (b ∷ t) x
    more h rest = (
      cond-false (eqb b 0) [] (b ∷ text_front ((t ++ 0 ∷ []) ++ x)) h.0 ∙ ap (λ (ys : List ℕ). b ∷ ys) (rest h.1).0,
      cond-false (eqb b 0) ((t ++ 0 ∷ []) ++ x) (text_rest ((t ++ 0 ∷ []) ++ x)) h.0 ∙ (rest h.1).1,
    )

-- ---- a value at the front, by its form

data Form : Type 0 where
  address : Form
  data1 : Form
  data2 : Form
  data4 : Form
  unsigned : Form
  signed : Form
  text : Form
  reference : Form
  section_offset : Form
  location_list : Form
  range_list : Form
  flag : Form
  present : Form
  expression : Form

-- the form of a number (DWARF 5 section 7.5.6)
abbrev form_at : ℕ → Form
form_at n =
    cond (eqb n 1) address (cond (eqb n 11) data1 (cond (eqb n 5) data2 (cond (eqb n 6) data4 (cond (eqb n 15) unsigned (cond (eqb n 13) signed
    (cond (eqb n 8) text (cond (eqb n 19) reference (cond (eqb n 23) section_offset (cond (eqb n 34) location_list (cond (eqb n 35) range_list
    (cond (eqb n 12) flag (cond (eqb n 25) present expression))))))))))))

abbrev read : Form → List ℕ → Value × List ℕ
read address bytes = (Address (from_le_bytes w64 (take 8 bytes)), drop 8 bytes)
read data1 bytes = (Data1 (get_or bytes 0 0), drop 1 bytes)
read data2 bytes = (Data2 (from_le_bytes w16 (take 2 bytes)), drop 2 bytes)
read data4 bytes = (Data4 (from_le_bytes w32 (take 4 bytes)), drop 4 bytes)
read unsigned bytes = (Unsigned (unsigned_value (leb_front bytes)), leb_rest bytes)
read signed bytes = (Signed (signed_value (leb_front bytes)), leb_rest bytes)
read text bytes = (Text (text_front bytes), text_rest bytes)
read reference bytes = (Reference (from_le_bytes w32 (take 4 bytes)), drop 4 bytes)
read section_offset bytes = (SectionOffset (from_le_bytes w32 (take 4 bytes)), drop 4 bytes)
read location_list bytes = (LocationList (unsigned_value (leb_front bytes)), leb_rest bytes)
read range_list bytes = (RangeList (unsigned_value (leb_front bytes)), leb_rest bytes)
read flag bytes = (Flag (eqb (get_or bytes 0 0) 1), drop 1 bytes)
read present bytes = (Present, bytes)
read expression bytes =
    (Expression (take (unsigned_value (leb_front bytes)) (leb_rest bytes)), drop (unsigned_value (leb_front bytes)) (leb_rest bytes))

-- a value with its reference as an offset
abbrev pub located : (offset : ℕ → ℕ) → Value → Value
located offset (Address a) = Address a
located offset (Data1 n) = Data1 n
located offset (Data2 n) = Data2 n
located offset (Data4 n) = Data4 n
located offset (Unsigned n) = Unsigned n
located offset (Signed v) = Signed v
located offset (Text name) = Text name
located offset (Reference item) = Reference (offset item)
located offset (SectionOffset n) = SectionOffset n
located offset (LocationList list) = LocationList list
located offset (RangeList list) = RangeList list
located offset (Flag is) = Flag is
located offset Present = Present
located offset (Expression bytes) = Expression bytes

-- a value that can be read back
abbrev pub IsReadable : (offset : ℕ → ℕ) → Value → Type 0
IsReadable offset (Address a) = a < 2 ^ 64
IsReadable offset (Data1 n) = Unit {0}
IsReadable offset (Data2 n) = n < 2 ^ 16
IsReadable offset (Data4 n) = n < 2 ^ 32
IsReadable offset (Unsigned n) = Unit {0}
IsReadable offset (Signed v) = Unit {0}
IsReadable offset (Text name) = named name ≡ name
IsReadable offset (Reference item) = offset item < 2 ^ 32
IsReadable offset (SectionOffset n) = n < 2 ^ 32
IsReadable offset (LocationList list) = Unit {0}
IsReadable offset (RangeList list) = Unit {0}
IsReadable offset (Flag is) = Unit {0}
IsReadable offset Present = Unit {0}
IsReadable offset (Expression bytes) = Unit {0}

both : {A B : Type 0} {a c : A} {b d : B} → a ≡ c → b ≡ d → ◌≡◌ {A = A × B} (a, b) (c, d)
both first second = λ i. (first i, second i)

flag_read : (is : Bool) (x : List ℕ) → read flag ((cond is 1 0 ∷ []) ++ x) ≡ (Flag is, x)
flag_read true x = refl
flag_read false x = refl

expression_read : (bytes x : List ℕ) → read expression ((uleb_of (length bytes) ++ bytes) ++ x) ≡ (Expression bytes, x)
expression_read bytes x =
    let whole : List ℕ = (uleb_of (length bytes) ++ bytes) ++ x in
    let apart : whole ≡ uleb_of (length bytes) ++ (bytes ++ x) = append_assoc (uleb_of (length bytes)) bytes x in
    let size : unsigned_value (leb_front whole) ≡ length bytes = ap (λ (ys : List ℕ). unsigned_value (leb_front ys)) apart ∙ uleb_read (length bytes) (bytes ++ x) in
    let rest : leb_rest whole ≡ bytes ++ x = ap leb_rest apart ∙ uleb_left (length bytes) (bytes ++ x) in
    let front : take (unsigned_value (leb_front whole)) (leb_rest whole) ≡ take (length bytes) (bytes ++ x) = λ i. take (size i) (rest i) in
    let back : drop (unsigned_value (leb_front whole)) (leb_rest whole) ≡ drop (length bytes) (bytes ++ x) = λ i. drop (size i) (rest i) in
    both (ap Expression (front ∙ take_at bytes x (length bytes) refl)) (back ∙ drop_at bytes x (length bytes) refl)

reads : (offset : ℕ → ℕ) (v : Value) (x : List ℕ) → IsReadable offset v → read (form_at (form_of v)) (value_bytes offset v ++ x) ≡ (located offset v, x)
reads offset (Address a) x ok = λ i. (Address (from_le_bytes-to_le_bytes_8 a ok i), x)
reads offset (Data1 n) x ok = refl
reads offset (Data2 n) x ok = λ i. (Data2 (from_le_bytes-to_le_bytes_2 n ok i), x)
reads offset (Data4 n) x ok = λ i. (Data4 (from_le_bytes-to_le_bytes_4 n ok i), x)
reads offset (Unsigned n) x ok = λ i. (Unsigned (uleb_read n x i), uleb_left n x i)
reads offset (Signed v) x ok = λ i. (Signed (sleb_read v x i), sleb_left v x i)
reads offset (Text name) x ok =
    let cut : value_bytes offset (Text name) ≡ name ++ 0 ∷ [] = ap (λ (ys : List ℕ). ys ++ 0 ∷ []) ok in
    let is : IsText name x = text_is name x ok in
    ap (λ (ys : List ℕ). read text (ys ++ x)) cut ∙ both (ap Text is.0) is.1
reads offset (Reference item) x ok = λ i. (Reference (from_le_bytes-to_le_bytes_4 (offset item) ok i), x)
reads offset (SectionOffset n) x ok = λ i. (SectionOffset (from_le_bytes-to_le_bytes_4 n ok i), x)
reads offset (LocationList list) x ok = λ i. (LocationList (uleb_read list x i), uleb_left list x i)
reads offset (RangeList list) x ok = λ i. (RangeList (uleb_read list x i), uleb_left list x i)
reads offset (Flag is) x ok = flag_read is x
reads offset Present x ok = refl
reads offset (Expression bytes) x ok = expression_read bytes x

-- a value can be told from what follows it by its form
pub value_one : (f g : ℕ → ℕ) (v w : Value) (x y : List ℕ) → IsReadable f v → IsReadable g w → form_of v ≡ form_of w
    → value_bytes f v ++ x ≡ value_bytes g w ++ y → (located f v ≡ located g w) × (x ≡ y)
value_one f g v w x y ok_v ok_w form e =
    let same : ◌≡◌ {A = Value × List ℕ} (located f v, x) (located g w, y) =
    sym (reads f v x ok_v) ∙ (λ i. read (form_at (form i)) (e i)) ∙ reads g w y ok_w in
    (ap (λ (p : Value × List ℕ). p.0) same, ap (λ (p : Value × List ℕ). p.1) same)
