-- Numbers of code that stand once: the numbers of code are apart, and no phi has one of them.
use Rattle.std.proofs.Common.{◌≡◌, ℕ, zero, suc, ◌+◌, ◌<◌, List, [], ◌∷◌, ◌++◌, length, get_or, drop, Option, Some, None, refl, sym, ap, ◌∙◌, subst, arith}
use Rattle.std.proofs.Common.{append_assoc, add-one, drop-cons}
use Rattle.std.specs.List.{slice_get, filter_map, cons_option}
use Rattle.std.proofs.lemmas.List.Elements.{filter_map-append}
use Rattle.mir_func.specs.declared.block.Block.{Block}
use Rattle.mir_func.specs.declared.item.Item.{Item}
use Rattle.mir_func.specs.declared.item.ItemKind.{ItemKind}
use Rattle.mir_func.specs.declared.item.ItemKind.TheVariants.{Code, Mark, Phi}
use Rattle.mir_func.specs.Sound.{AreApart, items_of, code_number, number_of, NumbersOnce}

abbrev pub codes_of : List Item → List ℕ
codes_of items = filter_map (λ i. code_number i.kind) items

-- one more block's numbers
pub codes_turn : (all : List Block) (i : ℕ) (b : Block) (ns ms t : List ℕ) → i < length all → b ≡ get_or all i b →
    ns ++ codes_of (items_of (drop i all)) ≡ t → ms ≡ ns ++ codes_of b.items → ms ++ codes_of (items_of (drop (i + 1) all)) ≡ t
codes_turn all i b ns ms t l e h m =
    let rest = codes_of (items_of (drop (i + 1) all)) in
    let d : drop i all ≡ b ∷ drop (i + 1) all = rw add-one (drop-cons all i b l ∙ ap (λ (x : Block). x ∷ drop (suc i) all) (sym e)) in
    let f : codes_of (items_of (drop i all)) ≡ codes_of b.items ++ rest =
    ap (λ (bs : List Block). codes_of (items_of bs)) d ∙ filter_map-append (λ (x : Item). code_number x.kind) b.items (items_of (drop (i + 1) all)) in
    ap (λ (xs : List ℕ). xs ++ rest) m ∙ (append_assoc ns (codes_of b.items) rest ∙ (ap (λ (xs : List ℕ). ns ++ xs) (sym f) ∙ h))

-- ---- lists without a number that stands twice

apart_cons : (n : ℕ) (ns : List ℕ) → AreApart ns → ((j : ℕ) → slice_get ns j ≡ Some n → ⊥) → AreApart (n ∷ ns)
apart_cons n ns h new zero zero m e f = refl
apart_cons n ns h new zero (suc j) m e f = absurd (new j (f ∙ sym e))
apart_cons n ns h new (suc i) zero m e f = absurd (new i (e ∙ sym f))
apart_cons n ns h new (suc i) (suc j) m e f = ap suc (h i j m e f)

pub apart_tail : (n : ℕ) (ns : List ℕ) → AreApart (n ∷ ns) → AreApart ns
apart_tail n ns h i j m e f = let k : suc i ≡ suc j = h (suc i) (suc j) m e f in omega arith

pub apart_head : (n : ℕ) (ns : List ℕ) (j : ℕ) → AreApart (n ∷ ns) → slice_get ns j ≡ Some n → ⊥
apart_head n ns j h e = let k : zero ≡ suc j = h zero (suc j) n refl e in absurd (omega arith)

-- ---- items and their numbers

pub code_is_number : (k : ItemKind) (n : ℕ) → code_number k ≡ Some n → number_of k ≡ Some n
code_is_number (Code i k) n e = e
code_is_number (Mark v m) n e = absurd cc
code_is_number (Phi p k) n e = absurd cc

-- an item of the code numbers
abbrev HasCode : List Item → ℕ → Type 0
HasCode items n = (i : ℕ) × (x : Item) × (slice_get items i ≡ Some x) × (code_number x.kind ≡ Some n)

code_past : (x : Item) (xs : List Item) (n : ℕ) → HasCode xs n → HasCode (x ∷ xs) n
code_past x xs n r = (suc r.0, r.1, r.2, r.3)

code_at : (x : Item) (xs : List Item) (n : ℕ) → ((j : ℕ) → slice_get (codes_of xs) j ≡ Some n → HasCode xs n) → (o : Option ℕ) (j : ℕ) →
    code_number x.kind ≡ o → slice_get (cons_option o (codes_of xs)) j ≡ Some n → HasCode (x ∷ xs) n
code_at x xs n later None j o f = code_past x xs n (later j f)
code_at x xs n later (Some m) zero o f = (zero, x, refl, o ∙ f)
code_at x xs n later (Some m) (suc j) o f = code_past x xs n (later j f)

item_of_code : (items : List Item) (j n : ℕ) → slice_get (codes_of items) j ≡ Some n → HasCode items n
item_of_code [] j n e = absurd cc
item_of_code (x ∷ xs) j n e = code_at x xs n (λ k f. item_of_code xs k n f) (code_number x.kind) j refl e

code_later : (o : Option ℕ) (ns : List ℕ) (n : ℕ) → ((l : ℕ) × (slice_get ns l ≡ Some n)) → (l : ℕ) × (slice_get (cons_option o ns) l ≡ Some n)
code_later None ns n c = c
code_later (Some m) ns n c = (suc c.0, c.1)

-- a code's number among the code numbers
code_of_item : (items : List Item) (i n : ℕ) (x : Item) → slice_get items i ≡ Some x → code_number x.kind ≡ Some n →
    (j : ℕ) × (slice_get (codes_of items) j ≡ Some n)
code_of_item [] i n x e f = absurd cc
code_of_item (y ∷ ys) zero n x e f =
    let same : y ≡ x = cc in
    let g : code_number y.kind ≡ Some n = ap (λ (z : Item). code_number z.kind) same ∙ f in
    (zero, ap (λ (o : Option ℕ). slice_get (cons_option o (codes_of ys)) zero) g)
code_of_item (y ∷ ys) (suc i) n x e f = code_later (code_number y.kind) (codes_of ys) n (code_of_item ys i n x e f)

once_tail : (x : Item) (xs : List Item) → NumbersOnce (x ∷ xs) → NumbersOnce xs
once_tail x xs h i j a b k e f g d = let s : suc i ≡ suc j = h (suc i) (suc j) a b k e f g d in omega arith

apart_with : (x : Item) (xs : List Item) → NumbersOnce (x ∷ xs) → AreApart (codes_of xs) → (o : Option ℕ) → code_number x.kind ≡ o →
    AreApart (cons_option o (codes_of xs))
apart_with x xs h rest None o = rest
apart_with x xs h rest (Some n) o = apart_cons n (codes_of xs) rest (λ j e.
    let r = item_of_code xs j n e in
    let s : zero ≡ suc r.0 = h zero (suc r.0) x r.1 n refl o r.2 (code_is_number r.1.kind n r.3) in absurd (omega arith))

pub codes_apart : (items : List Item) → NumbersOnce items → AreApart (codes_of items)
codes_apart [] h = λ i j n e f. absurd cc
codes_apart (x ∷ xs) h = apart_with x xs h (codes_apart xs (once_tail x xs h)) (code_number x.kind) refl

-- no phi has a number that is in S
abbrev pub PhiOff : (ℕ → Type 0) → ItemKind → Type 0
PhiOff S (Phi p k) = S k → ⊥
PhiOff S _ = Unit {0}

-- a number is one of code
abbrev pub IsCode : List Item → ℕ → Type 0
IsCode items n = (j : ℕ) × (slice_get (codes_of items) j ≡ Some n)

abbrev pub PhisOff : (ℕ → Type 0) → List Item → Type 0
PhisOff S items = (i : ℕ) (x : Item) → slice_get items i ≡ Some x → PhiOff S x.kind

pub phis_off : (items : List Item) → NumbersOnce items → PhisOff (IsCode items) items
phis_off items h i x e = by_kind x.kind refl where
  by_kind : (k : ItemKind) → x.kind ≡ k → PhiOff (IsCode items) k
  by_kind (Code c k) o = tt
  by_kind (Mark v m) o = tt
  by_kind (Phi p k) o = λ c.
      let r = item_of_code items c.0 k c.1 in
      let number : number_of x.kind ≡ Some k = ap number_of o in
      let s : r.0 ≡ i = h r.0 i r.1 x k r.2 r.3 e number in
      let same : Some r.1 ≡ Some x = sym r.2 ∙ (ap (slice_get items) s ∙ e) in
      let one : r.1 ≡ x = cc in
      let no : ◌≡◌ {A = Option ℕ} None (Some k) = sym (ap code_number o) ∙ (ap (λ (z : Item). code_number z.kind) (sym one) ∙ r.3) in cc

-- an item with a number of S has it as code
is_code : (S : ℕ → Type 0) (k : ItemKind) (n : ℕ) → PhiOff S k → S n → number_of k ≡ Some n → code_number k ≡ Some n
is_code S (Code i k) n off s e = e
is_code S (Mark v m) n off s e = absurd cc
is_code S (Phi p k) n off s e = let same : n ≡ k = cc in absurd (off (subst S same s))

apart_rest : (o : Option ℕ) (ns : List ℕ) → AreApart (cons_option o ns) → AreApart ns
apart_rest None ns a = a
apart_rest (Some n) ns a = apart_tail n ns a

once_within : (xs : List Item) → AreApart (codes_of xs) → (S : ℕ → Type 0) → ((n : ℕ) → IsCode xs n → S n) → PhisOff S xs → NumbersOnce xs
once_within [] h S all off i j x y k e f g d = absurd cc
once_within (z ∷ zs) h S all off zero zero x y k e f g d = refl
once_within (z ∷ zs) h S all off zero (suc j) x y k e f g d =
    let c = is_code S y.kind k (off (suc j) y g) (all k (code_of_item (z ∷ zs) zero k x e f)) d in
    let same : z ≡ x = cc in
    let first : code_number z.kind ≡ Some k = ap (λ (w : Item). code_number w.kind) same ∙ f in
    let r = code_of_item zs j k y g c in
    absurd (apart_head k (codes_of zs) r.0 (subst (λ (o : Option ℕ). AreApart (cons_option o (codes_of zs))) first h) r.1)
once_within (z ∷ zs) h S all off (suc i) zero x y k e f g d =
    let r = code_of_item zs i k x e f in
    let c = is_code S y.kind k (off zero y g) (all k (code_of_item (z ∷ zs) (suc i) k x e f)) d in
    let same : z ≡ y = cc in
    let first : code_number z.kind ≡ Some k = ap (λ (w : Item). code_number w.kind) same ∙ c in
    absurd (apart_head k (codes_of zs) r.0 (subst (λ (o : Option ℕ). AreApart (cons_option o (codes_of zs))) first h) r.1)
once_within (z ∷ zs) h S all off (suc i) (suc j) x y k e f g d =
    ap suc (once_within zs (apart_rest (code_number z.kind) (codes_of zs) h) S (λ n c. all n (code_later (code_number z.kind) (codes_of zs) n c))
    (λ l w q. off (suc l) w q) i j x y k e f g d)

pub once_from : (items : List Item) → AreApart (codes_of items) → PhisOff (IsCode items) items → NumbersOnce items
once_from items apart off = once_within items apart (IsCode items) (λ n c. c) off
