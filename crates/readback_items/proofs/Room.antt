-- Within the limits no line is refused.
use Rattle.std.proofs.Common.{◌≡◌, ◌⊎◌, ℕ, zero, suc, ◌+◌, ◌≤◌, Bool, true, false, cond, eqb, ltb, leb, ◌||◌, ◌&&◌, List, [], ◌∷◌, ◌++◌, length, All}
use Rattle.std.proofs.Common.{Option, Some, None, refl, sym, ap, subst, ◌∙◌, inl, inr, arith, append_assoc}
use Rattle.std.specs.Prelude.{IfSome}
use Rattle.std.specs.List.{slice_get}
use Rattle.std.proofs.lemmas.Bool.{cases_Bool, and_parts, eqb-true, eq-eqb, le-ltb, lt-leb}
use Rattle.std.proofs.lemmas.List.{length-append, append-nil}
use Rattle.std.proofs.lemmas.List.Elements.{All-head, All-tail}
use Rattle.std.proofs.lemmas.Option.{slice_get_within}
use Rattle.read_refusal.specs.declared.kind.RefusalKind.{RefusalKind}
use Rattle.read_refusal.specs.declared.kind.RefusalKind.TheVariants as kinds
use Rattle.mir_func.specs.declared.block.Block.{Block}
use Rattle.mir_func.specs.declared.item.Item.{Item}
use Rattle.mir_func.specs.declared.item.ItemKind.{ItemKind}
use Rattle.mir_func.specs.declared.item.ItemKind.TheVariants.{Code, Mark, Phi}
use Rattle.mir_func.specs.declared.variable.VarId.{VarId}
use Rattle.mir_func.specs.Parts.{Bytes}
use Rattle.mir_func.specs.Sound.{AreApart, ids_of, items_of, number_of, code_number, NumbersOnce}
use Rattle.mir_func.specs.Variables.{is_same_node, is_same_variable, are_same_bytes, is_same}
use Rattle.mir_func.specs.Limits.{MAX_BLOCKS}
use Rattle.read_body.specs.declared.body.Body.{Body}
use Rattle.read_body.specs.Body.{repeats, exceeds, item_cause, label_cause, with_label, with_number, with_constant, with_variable, constant_of}
use Rattle.read_body.specs.Body.{object_named, nothing_read}
use Rattle.read_body.specs.Limits.{MAX_ITEMS, MAX_VARIABLES, MAX_NUMBERS, MAX_CONSTANTS}
use Rattle.read_body.specs.FirstUseOrder.{is_met, met}
use Rattle.read_program.proofs.Bodies.{facts_apart}
use Rattle.read_program.proofs.Entries.{met_cases}
use Rattle.read_program.proofs.Lists.{found, All-front}
use Rattle.readback_items.specs.Code.{judged_kind}
use Rattle.readback_items.specs.Body.{judged_constant, VariableIn, entries_named}
use Rattle.readback_items.proofs.Counted.{Among, none_among, few_among, more_among}
use Rattle.readback_items.proofs.Facts.{Facts, item_facts}
use Rattle.readback_items.proofs.Made.{block_made}
use Rattle.readback_items.proofs.Steps.{with_read, with_items, with_block, ItemsFit, BlocksFit}

-- ---- two parts of variables are the same where the test tells so

same_nodes : (a b : Option ℕ) → is_same_node a b ≡ true → a ≡ b
same_nodes None None e = refl
same_nodes (Some m) (Some n) e = ap (λ (k : ℕ). Some k) (eqb-true m n e)
same_nodes None (Some n) e = absurd cc
same_nodes (Some m) None e = absurd cc

same_bytes : (a b : Option Bytes) → are_same_bytes a b ≡ true → a ≡ b
same_bytes None None e = refl
same_bytes (Some a) (Some b) e =
    let parts = and_parts (eqb a.offset b.offset) (eqb a.length b.length) e in
    λ i. Some (record { offset = eqb-true a.offset b.offset parts.0 i; length = eqb-true a.length b.length parts.1 i })
same_bytes None (Some b) e = absurd cc
same_bytes (Some a) None e = absurd cc

same_parts : (v w : VarId) → is_same v w ≡ true → v ≡ w
same_parts v w e =
    let parts = and_parts (is_same_variable v w) (are_same_bytes v.fragment w.fragment) e in
    let variable = and_parts (eqb v.node w.node) (is_same_node v.inlined_at w.inlined_at) parts.0 in
    λ i. record {
      node = eqb-true v.node w.node variable.0 i;
      inlined_at = same_nodes v.inlined_at w.inlined_at variable.1 i;
      fragment = same_bytes v.fragment w.fragment parts.1 i;
    }

pub node_itself : (a : Option ℕ) → is_same_node a a ≡ true
node_itself None = refl
node_itself (Some m) = eq-eqb m m refl

pub bytes_itself : (a : Option Bytes) → are_same_bytes a a ≡ true
bytes_itself None = refl
bytes_itself (Some a) = ap (λ (b : Bool). b && eqb a.length a.length) (eq-eqb a.offset a.offset refl) ∙ eq-eqb a.length a.length refl

pub part_itself : (v : VarId) → is_same v v ≡ true
part_itself v =
    ap (λ (b : Bool). b && are_same_bytes v.fragment v.fragment)
    (ap (λ (b : Bool). b && is_same_node v.inlined_at v.inlined_at) (eq-eqb v.node v.node refl) ∙ node_itself v.inlined_at)
    ∙ bytes_itself v.fragment

number_itself : (n : ℕ) → eqb n n ≡ true
number_itself n = eq-eqb n n refl

abbrev NumbersAmong : List ℕ → List ℕ → Type 0
NumbersAmong = Among eqb eqb-true number_itself

abbrev PartsAmong : List VarId → List VarId → Type 0
PartsAmong = Among is_same same_parts part_itself

-- ---- what is known behind some items

-- an item of these has the number
abbrev Stands : (ItemKind → Option ℕ) → List Item → ℕ → Type 0
Stands of seen k = (j : ℕ) × (x : Item) × (slice_get seen j ≡ Some x) × (of x.kind ≡ Some k)

module _ (vs : List VarId) (ns cs : List ℕ) where
  pub record Room (seen : List Item) (body : Body) : Type 0 where
    items : body.items ≡ length seen
    codes : (k : ℕ) → is_met k body.codes ≡ true → Stands code_number seen k
    given : (k : ℕ) → is_met k body.numbers ≡ true → Stands number_of seen k
    variables : PartsAmong body.variables vs
    numbers : NumbersAmong body.numbers ns
    constants : NumbersAmong body.constants cs

  -- an item within the limits
  pub record Fits (i : Item) : Type 0 where
    pub variable : VariableIn vs i.kind
    pub number : IfSome (number_of i.kind) (λ k. is_met k ns ≡ true)
    pub constant : IfSome (judged_constant i.kind) (λ k. is_met k cs ≡ true)

push_left : {X : Type 0} (xs ys : List X) (j : ℕ) (x : X) → slice_get xs j ≡ Some x → slice_get (xs ++ ys) j ≡ Some x
push_left [] ys j x e = absurd cc
push_left (y ∷ xs) ys zero x e = e
push_left (y ∷ xs) ys (suc j) x e = push_left xs ys j x e

-- P holds of each element behind some, and of each before others
pub all_behind : {X : Type 0} (P : X → Type 0) (xs ys : List X) → All P (xs ++ ys) → All P ys
all_behind P [] ys all = all
all_behind P (x ∷ xs) ys all = all_behind P xs ys (All-tail P x (xs ++ ys) all)

pub all_front : {X : Type 0} (P : X → Type 0) (xs ys : List X) → All P (xs ++ ys) → All P xs
all_front P xs ys all = All-front P xs ys all

at_end : {X : Type 0} (xs : List X) (y : X) (ys : List X) → slice_get (xs ++ y ∷ ys) (length xs) ≡ Some y
at_end [] y ys = refl
at_end (x ∷ xs) y ys = at_end xs y ys

or_none : (a b c d : Bool) → a ≡ false → b ≡ false → c ≡ false → d ≡ false → (a || (b || (c || d))) ≡ false
or_none false false false false p q r s = refl
or_none true b c d p q r s = absurd cc
or_none false true c d p q r s = absurd cc
or_none false false true d p q r s = absurd cc
or_none false false false true p q r s = absurd cc

no_cause : (a b : Bool) (x y : RefusalKind) → a ≡ false → b ≡ false → cond a (Some x) (cond b (Some y) None) ≡ None
no_cause false false x y p q = refl
no_cause true b x y p q = absurd cc
no_cause false true x y p q = absurd cc

met_number : (body : Body) (kind : ItemKind) (k : ℕ) → is_met k (with_number body (judged_kind kind)).numbers ≡ true →
    (is_met k body.numbers ≡ true) ⊎ (number_of kind ≡ Some k)
met_number body (Code c None) k is = inl is
met_number body (Code c (Some n)) k is = elim (met_cases k n body.numbers is) [ inl h ↦ inl h | inr e ↦ inr (ap (λ (x : ℕ). Some x) (sym e)) ]
met_number body (Mark v m) k is = inl is
met_number body (Phi p n) k is = elim (met_cases k n body.numbers is) [ inl h ↦ inl h | inr e ↦ inr (ap (λ (x : ℕ). Some x) (sym e)) ]

met_code : (body : Body) (kind : ItemKind) (k : ℕ) → is_met k (with_number body (judged_kind kind)).codes ≡ true →
    (is_met k body.codes ≡ true) ⊎ (code_number kind ≡ Some k)
met_code body (Code c None) k is = inl is
met_code body (Code c (Some n)) k is = elim (met_cases k n body.codes is) [ inl h ↦ inl h | inr e ↦ inr (ap (λ (x : ℕ). Some x) (sym e)) ]
met_code body (Mark v m) k is = inl is
met_code body (Phi p n) k is = inl is

numbers_more : (ns : List ℕ) (body : Body) (kind : ItemKind) → IfSome (number_of kind) (λ k. is_met k ns ≡ true) → NumbersAmong body.numbers ns →
    NumbersAmong (with_number body (judged_kind kind)).numbers ns
numbers_more ns body (Code c None) has a = a
numbers_more ns body (Code c (Some k)) has a = more_among eqb eqb-true number_itself body.numbers ns k has a
numbers_more ns body (Mark v m) has a = a
numbers_more ns body (Phi p k) has a = more_among eqb eqb-true number_itself body.numbers ns k has a

constants_more : (cs : List ℕ) (body : Body) (c : Option ℕ) → IfSome c (λ k. is_met k cs ≡ true) → NumbersAmong body.constants cs →
    NumbersAmong (with_constant body c).constants cs
constants_more cs body None has a = a
constants_more cs body (Some k) has a = more_among eqb eqb-true number_itself body.constants cs k has a

variables_more : (vs : List VarId) (body : Body) (kind : ItemKind) → VariableIn vs kind → PartsAmong body.variables vs →
    PartsAmong (with_variable body (judged_kind kind)).variables vs
variables_more vs body (Code c k) has a = a
variables_more vs body (Mark v m) has a = more_among is_same same_parts part_itself body.variables vs v has a
variables_more vs body (Phi p k) has a = a

stands_more : (of : ItemKind → Option ℕ) (seen : List Item) (i : Item) (k : ℕ) → (Stands of seen k) ⊎ (of i.kind ≡ Some k) → Stands of (seen ++ i ∷ []) k
stands_more of seen i k (inl s) = (s.0, s.1, push_left seen (i ∷ []) s.0 s.1 s.2, s.3)
stands_more of seen i k (inr e) = (length seen, i, at_end seen i [], e)

module _ (vs : List VarId) (ns cs : List ℕ) (few_variables : length vs ≤ MAX_VARIABLES) (few_numbers : length ns ≤ MAX_NUMBERS)
    (few_constants : length cs ≤ MAX_CONSTANTS) where
  -- the number of an item isn't given before it
  fresh : (seen rest : List Item) (i : Item) (kind : ItemKind) → i.kind ≡ kind → (body : Body) → Room vs ns cs seen body →
      NumbersOnce (seen ++ i ∷ rest) → repeats body (judged_kind kind) ≡ false
  fresh seen rest i (Code c None) is body room once = refl
  fresh seen rest i (Code c (Some k)) is body room once = elim (cases_Bool (is_met k body.numbers)) [
    | inl met ↦ (let s = room.given k met in
        let same = once (length seen) s.0 i s.1 k (at_end seen i rest) (ap code_number is) (push_left seen (i ∷ rest) s.0 s.1 s.2) s.3 in
        absurd (omega (arith, same, slice_get_within seen s.0 s.1 s.2)))
    | inr none ↦ none
  ]
  fresh seen rest i (Mark v m) is body room once = refl
  fresh seen rest i (Phi p k) is body room once = elim (cases_Bool (is_met k body.codes)) [
    | inl met ↦ (let s = room.codes k met in
        let same = once s.0 (length seen) s.1 i k (push_left seen (i ∷ rest) s.0 s.1 s.2) s.3 (at_end seen i rest) (ap number_of is) in
        absurd (omega (arith, same, slice_get_within seen s.0 s.1 s.2)))
    | inr none ↦ none
  ]

  record Step (seen : List Item) (i : Item) (body : Body) : Type 0 where
    none : item_cause body (judged_kind i.kind) i.loc (entries_named i) ≡ None
    room : Room vs ns cs (seen ++ i ∷ []) (with_read body i)

  item_step : (seen rest : List Item) (i : Item) (body : Body) → Room vs ns cs seen body → Fits vs ns cs i → NumbersOnce (seen ++ i ∷ rest) →
      suc (length seen) ≤ MAX_ITEMS → Step seen i body
  item_step seen rest i body room fits once few = record {
    none = no_cause (repeats body kind) (exceeds next) kinds.DuplicateNumber kinds.TooMany (fresh seen rest i i.kind refl body room once)
        (or_none (ltb MAX_ITEMS next.items) (ltb MAX_VARIABLES (length next.variables)) (ltb MAX_NUMBERS (length next.numbers))
        (ltb MAX_CONSTANTS (length next.constants)) (le-ltb MAX_ITEMS next.items (omega (arith, count, few)))
        (le-ltb MAX_VARIABLES (length next.variables) (omega (arith, few_among is_same same_parts part_itself next.variables vs variables, few_variables)))
        (le-ltb MAX_NUMBERS (length next.numbers) (omega (arith, few_among eqb eqb-true number_itself next.numbers ns numbers, few_numbers)))
        (le-ltb MAX_CONSTANTS (length next.constants) (omega (arith, few_among eqb eqb-true number_itself next.constants cs constants, few_constants))));
    room = record {
      items = count ∙ (let e : suc (length seen) ≡ length (seen ++ i ∷ []) = omega (arith, length-append seen (i ∷ [])) in e);
      codes = λ k met. stands_more code_number seen i k
          (elim (met_code body i.kind k (ap (is_met k) (sym facts.codes) ∙ met)) [ inl h ↦ inl (room.codes k h) | inr e ↦ inr e ]);
      given = λ k met. stands_more number_of seen i k
          (elim (met_number body i.kind k (ap (is_met k) (sym facts.numbers) ∙ met)) [ inl h ↦ inl (room.given k h) | inr e ↦ inr e ]);
      variables = variables;
      numbers = numbers;
      constants = constants;
    };
  } where
    kind : ItemKind
    kind = judged_kind i.kind

    next : Body
    next = with_read body i

    facts : Facts body next kind (constant_of kind) (object_named kind)
    facts = item_facts body kind i.loc (entries_named i)

    count : next.items ≡ suc (length seen)
    count = let same = (facts_apart body kind).items in omega (arith, same, room.items)

    variables : PartsAmong next.variables vs
    variables = subst (λ (l : List VarId). PartsAmong l vs) (sym facts.variables) (variables_more vs body i.kind fits.variable room.variables)

    numbers : NumbersAmong next.numbers ns
    numbers = subst (λ (l : List ℕ). NumbersAmong l ns) (sym facts.numbers) (numbers_more ns body i.kind fits.number room.numbers)

    constants : NumbersAmong next.constants cs
    constants = subst (λ (l : List ℕ). NumbersAmong l cs) (sym facts.constants) (constants_more cs body (constant_of kind) fits.constant room.constants)

  record Walk (seen items : List Item) (body : Body) : Type 0 where
    fit : ItemsFit body items
    room : Room vs ns cs (seen ++ items) (with_items body items)

  items_walk : (seen items after : List Item) (body : Body) → Room vs ns cs seen body → All (Fits vs ns cs) (items ++ after) →
      NumbersOnce (seen ++ (items ++ after)) → length seen + length (items ++ after) ≤ MAX_ITEMS → Walk seen items body
  items_walk seen [] after body room fits once few = record { fit = tt; room = subst (λ (s : List Item). Room vs ns cs s body) (sym (append-nil seen)) room }
  items_walk seen (i ∷ is) after body room fits once few =
      let step = item_step seen (is ++ after) i body room (All-head (Fits vs ns cs) i (is ++ after) fits) once (omega (arith, few)) in
      let more = items_walk (seen ++ i ∷ []) is after (with_read body i) step.room (All-tail (Fits vs ns cs) i (is ++ after) fits)
      (subst NumbersOnce (sym (append_assoc seen (i ∷ []) (is ++ after))) once) (omega (arith, few, length-append seen (i ∷ []))) in
      record {
        fit = (step.none, more.fit);
        room = subst (λ (s : List Item). Room vs ns cs s (with_items (with_read body i) is)) (append_assoc seen (i ∷ []) is) more.room;
      }

  label_none : (body : Body) (n : ℕ) (rest : List ℕ) → AreApart (body.ids ++ n ∷ rest) → suc (length body.ids) ≤ MAX_BLOCKS → label_cause body n ≡ None
  label_none body n rest apart few = no_cause (is_met n body.ids) (leb MAX_BLOCKS (length body.ids)) kinds.DuplicateBlock kinds.TooMany
      (elim (cases_Bool (is_met n body.ids)) [
        | inl there ↦ (let at = found body.ids n there in
            let same = apart at.0 (length body.ids) n (push_left body.ids (n ∷ rest) at.0 n at.1) (at_end body.ids n rest) in
            absurd (omega (arith, same, slice_get_within body.ids at.0 n at.1)))
        | inr none ↦ none
      ]) (lt-leb MAX_BLOCKS (length body.ids) (omega (arith, few)))

  pub blocks_walk : (seen : List Item) (blocks : List Block) (body : Body) → Room vs ns cs seen body → All (Fits vs ns cs) (items_of blocks) →
      NumbersOnce (seen ++ items_of blocks) → length seen + length (items_of blocks) ≤ MAX_ITEMS → AreApart (body.ids ++ ids_of blocks) →
      length body.ids + length blocks ≤ MAX_BLOCKS → BlocksFit body blocks
  blocks_walk seen [] body room fits once few apart few_blocks = tt
  blocks_walk seen (b ∷ bs) body room fits once few apart few_blocks =
      let none = label_none body b.id (ids_of bs) apart (omega (arith, few_blocks)) in
      let walk = items_walk seen b.items (items_of bs) (with_label body b.id) (record {
        items = room.items;
        codes = room.codes;
        given = room.given;
        variables = room.variables;
        numbers = room.numbers;
        constants = room.constants;
      }) fits once few in
      let ids = (block_made body b none).ids in (
        none,
        walk.fit,
        blocks_walk (seen ++ b.items) bs (with_block body b) walk.room (all_behind (Fits vs ns cs) b.items (items_of bs) fits)
            (subst NumbersOnce (sym (append_assoc seen b.items (items_of bs))) once)
            (omega (arith, few, length-append seen b.items, length-append b.items (items_of bs)))
            (subst AreApart (sym (ap (λ (l : List ℕ). l ++ ids_of bs) ids ∙ append_assoc body.ids (b.id ∷ []) (ids_of bs))) apart)
            (omega (arith, ap length ids, length-append body.ids (b.id ∷ []), few_blocks)),
      )

  pub nothing_room : Room vs ns cs [] nothing_read
  nothing_room = record {
    items = refl;
    codes = λ k met. absurd cc;
    given = λ k met. absurd cc;
    variables = none_among is_same same_parts part_itself vs;
    numbers = none_among eqb eqb-true number_itself ns;
    constants = none_among eqb eqb-true number_itself cs;
  }
