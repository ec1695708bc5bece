-- Each part that some item marks is one of a variable of its function. And a part that no item marks has no token on any path.
use Rattle.std.proofs.Common.{◌≡◌, ◌⊎◌, ℕ, zero, suc, List, [], ◌∷◌, ◌++◌, Option, Some, None}
use Rattle.std.proofs.Common.{Bool, true, false, cond, refl, sym, ap, ◌∙◌, subst, inl, inr, arith}
use Rattle.std.specs.Prelude.{slice_get, All, Contains, ◌||◌}
use Rattle.std.specs.List.{flat_map, list_any}
use Rattle.std.proofs.lemmas.List.Elements.{All-cons, All-weaker}
use Rattle.std.proofs.lemmas.Bool.{and_from}
use Rattle.mir_func.specs.declared.block.Block.{Block}
use Rattle.mir_func.specs.Sound.{AllItems}
use Rattle.mir_func.specs.declared.item.Item.{Item}
use Rattle.mir_func.specs.declared.item.ItemKind.{ItemKind}
use Rattle.mir_func.specs.declared.item.ItemKind.TheVariants.{Code, Mark, Phi}
use Rattle.mir_func.specs.declared.position.Pos.{Pos}
use Rattle.mir_func.specs.declared.variable.VarId.{VarId}
use Rattle.mir_func.specs.Graph.{Program, Fetch, Here, EndOfBlock, Outside}
use Rattle.mir_func.specs.Variables.{is_same_variable, is_same, overlaps}
use Rattle.sem_mir.specs.State.{assigned}
use Rattle.sem_mir.specs.ValueId.{Token, Tokens, Path, begin, onward, after_item, after_fetch, mark_token, variable_token}
use Rattle.sem_mir.specs.PreferredLocation.{NoneIsPreferred}
use Rattle.sem_mir.proofs.Assignments.{same_is, same_variable_refl}
use Rattle.listing_meaning.specs.sem_value_ids.Pullback.{OfVariable}
use Rattle.listing_meaning.proofs.sem_value_ids.Backwards.{tokens_pull_back}
use Rattle.dwarf_unit.specs.dwarf_line_table.Files.{with_new, first_uses}
use Rattle.dwarf_unit.specs.Variables.{whole, marked, marks_of, variables_of_function}
use Rattle.compile_theorem.specs.Source.{MarksOneOf}

-- ---- variables of a list

-- the variable of a part is one of a list
abbrev pub Has : List VarId → VarId → Type 0
Has [] v = ⊥
Has (x ∷ xs) v = (is_same_variable v x ≡ true) ⊎ Has xs v

same_wholes : (v w : VarId) → is_same_variable v w ≡ true → whole v ≡ whole w
same_wholes v w same = same_is (whole v) (whole w) (and_from (is_same_variable v w) true same refl)

has_left : (xs ys : List VarId) (v : VarId) → Has xs v → Has (xs ++ ys) v
has_left [] ys v none = absurd none
has_left (x ∷ xs) ys v (inl is) = inl is
has_left (x ∷ xs) ys v (inr more) = inr (has_left xs ys v more)

has_right : (xs ys : List VarId) (v : VarId) → Has ys v → Has (xs ++ ys) v
has_right [] ys v is = is
has_right (x ∷ xs) ys v is = inr (has_right xs ys v is)

-- what a test finds
has_any : (xs : List VarId) (v w : VarId) → is_same_variable v w ≡ true → list_any (is_same_variable w) xs ≡ true → Has xs v
has_any [] v w same e = cc
has_any (x ∷ xs) v w same e = by_head (is_same_variable w x) refl e (λ more. has_any xs v w same more) where
  by_head : (b : Bool) → is_same_variable w x ≡ b → b || list_any (is_same_variable w) xs ≡ true → (list_any (is_same_variable w) xs ≡ true → Has xs v) →
      Has (x ∷ xs) v
  by_head true is e later = inl (ap (λ (z : VarId). is_same_variable z x) (same_wholes v w same) ∙ is)
  by_head false is more later = inr (later more)

any_has : (xs : List VarId) (v : VarId) → Has xs v → list_any (is_same_variable v) xs ≡ true
any_has [] v none = absurd none
any_has (x ∷ xs) v (inl is) = ap (λ (b : Bool). b || list_any (is_same_variable v) xs) is
any_has (x ∷ xs) v (inr more) = by_head (is_same_variable v x) (any_has xs v more) where
  by_head : (b : Bool) → list_any (is_same_variable v) xs ≡ true → b || list_any (is_same_variable v) xs ≡ true
  by_head true rest = refl
  by_head false rest = rest

pub any_is : (xs : List VarId) (v : VarId) → list_any (is_same_variable v) xs ≡ true → Has xs v
any_is xs v e = has_any xs v v (same_variable_refl v) e

new_keeps : (known : List VarId) (x v : VarId) → Has known v → Has (with_new is_same_variable known x) v
new_keeps known x v is =
    elim (list_any (is_same_variable x) known) as (λ b. Has (cond b known (known ++ x ∷ [])) v) [ true ↦ is | false ↦ has_left known (x ∷ []) v is ]

new_has : (known : List VarId) (x v : VarId) → is_same_variable v x ≡ true → Has (with_new is_same_variable known x) v
new_has known x v same = by_test (list_any (is_same_variable x) known) refl where
  by_test : (b : Bool) → list_any (is_same_variable x) known ≡ b → Has (cond b known (known ++ x ∷ [])) v
  by_test true any = has_any known v x same any
  by_test false any = has_right known (x ∷ []) v (inl same)

uses_keep : (known vs : List VarId) (v : VarId) → Has known v → Has (first_uses is_same_variable known vs) v
uses_keep known [] v is = is
uses_keep known (x ∷ vs) v is = uses_keep (with_new is_same_variable known x) vs v (new_keeps known x v is)

uses_have : (known vs : List VarId) (v : VarId) → Has vs v → Has (first_uses is_same_variable known vs) v
uses_have known [] v none = absurd none
uses_have known (x ∷ vs) v (inl same) = uses_keep (with_new is_same_variable known x) vs v (new_has known x v same)
uses_have known (x ∷ vs) v (inr more) = uses_have (with_new is_same_variable known x) vs v more

-- each is a whole variable
abbrev Wholes : List VarId → Type 0
Wholes [] = Unit {0}
Wholes (x ∷ xs) = (x.fragment ≡ None) × Wholes xs

wholes_append : (xs ys : List VarId) → Wholes xs → Wholes ys → Wholes (xs ++ ys)
wholes_append [] ys a b = b
wholes_append (x ∷ xs) ys a b = (a.0, wholes_append xs ys a.1 b)

wholes_uses : (known vs : List VarId) → Wholes known → Wholes vs → Wholes (first_uses is_same_variable known vs)
wholes_uses known [] a b = a
wholes_uses known (x ∷ vs) a b = wholes_uses (with_new is_same_variable known x) vs (by_test (list_any (is_same_variable x) known)) b.1 where
  by_test : (z : Bool) → Wholes (cond z known (known ++ x ∷ []))
  by_test true = a
  by_test false = wholes_append known (x ∷ []) a (b.0, tt)

marked_wholes : (k : ItemKind) → Wholes (marked k)
marked_wholes (Mark v m) = (refl, tt)
marked_wholes (Code i k) = tt
marked_wholes (Phi p k) = tt

marks_wholes : (items : List Item) → Wholes (marks_of items)
marks_wholes [] = tt
marks_wholes (i ∷ items) = wholes_append (marked i.kind) (marks_of items) (marked_wholes i.kind) (marks_wholes items)

-- the number of a variable
pub record Numbered (vs : List VarId) (v : VarId) : Type 0 where
  pub number : ℕ
  pub stands : slice_get vs number ≡ Some (whole v)

number_in : (vs : List VarId) (v : VarId) → Wholes vs → Has vs v → Numbered vs v
number_in [] v are none = absurd none
number_in (x ∷ vs) v are (inl same) =
    let is : x ≡ whole v = (λ i. record x { fragment = are.0 i }) ∙ sym (same_wholes v x same) in
    record { number = 0; stands = ap Some is }
number_in (x ∷ vs) v are (inr more) = let n = number_in vs v are.1 more in record { number = suc n.number; stands = n.stands }

blocks_wholes : (blocks : List Block) → Wholes (flat_map (λ b. marks_of b.items) blocks)
blocks_wholes [] = tt
blocks_wholes (b ∷ blocks) = wholes_append (marks_of b.items) (flat_map (λ x. marks_of x.items) blocks) (marks_wholes b.items) (blocks_wholes blocks)

pub numbered : (blocks : List Block) (v : VarId) → Has (variables_of_function blocks) v → Numbered (variables_of_function blocks) v
numbered blocks v has =
    number_in (variables_of_function blocks) v (wholes_uses [] (flat_map (λ b. marks_of b.items) blocks) tt (blocks_wholes blocks)) has

-- ---- marks of items

-- a mark is of one of these variables
abbrev pub MarkIn : List VarId → ItemKind → Type 0
MarkIn vs (Mark v m) = Has vs v
MarkIn vs (Code i k) = Unit {0}
MarkIn vs (Phi p k) = Unit {0}

kind_in : (k : ItemKind) (more : List VarId) → MarkIn (marked k ++ more) k
kind_in (Mark v m) more = inl (same_variable_refl v)
kind_in (Code i k) more = tt
kind_in (Phi p k) more = tt

in_more : (vs ws : List VarId) → ((v : VarId) → Has vs v → Has ws v) → (k : ItemKind) → MarkIn vs k → MarkIn ws k
in_more vs ws more (Mark v m) is = more v is
in_more vs ws more (Code i k) is = tt
in_more vs ws more (Phi p k) is = tt

abbrev AllIn : List VarId → List Item → Type 0
AllIn vs [] = Unit {0}
AllIn vs (i ∷ items) = MarkIn vs i.kind × AllIn vs items

all_more : (vs ws : List VarId) → ((v : VarId) → Has vs v → Has ws v) → (items : List Item) → AllIn vs items → AllIn ws items
all_more vs ws more [] are = tt
all_more vs ws more (i ∷ items) are = (in_more vs ws more i.kind are.0, all_more vs ws more items are.1)

marks_in : (items : List Item) → AllIn (marks_of items) items
marks_in [] = tt
marks_in (i ∷ items) =
    let rest = marks_of items in
    (kind_in i.kind rest, all_more rest (marked i.kind ++ rest) (λ v is. has_right (marked i.kind) rest v is) items (marks_in items))

every_in : (vs : List VarId) (items : List Item) → AllIn vs items → All (λ i. MarkIn vs i.kind) items
every_in vs [] are = λ k d low. absurd (omega (arith, low))
every_in vs (i ∷ items) are = All-cons (λ j. MarkIn vs j.kind) i items are.0 (every_in vs items are.1)

abbrev BlocksIn : List VarId → List Block → Type 0
BlocksIn vs [] = Unit {0}
BlocksIn vs (b ∷ blocks) = AllIn vs b.items × BlocksIn vs blocks

blocks_more : (vs ws : List VarId) → ((v : VarId) → Has vs v → Has ws v) → (blocks : List Block) → BlocksIn vs blocks → BlocksIn ws blocks
blocks_more vs ws more [] are = tt
blocks_more vs ws more (b ∷ blocks) are = (all_more vs ws more b.items are.0, blocks_more vs ws more blocks are.1)

blocks_in : (blocks : List Block) → BlocksIn (flat_map (λ b. marks_of b.items) blocks) blocks
blocks_in [] = tt
blocks_in (b ∷ blocks) =
    let own = marks_of b.items in
    let rest = flat_map (λ x. marks_of x.items) blocks in (
      all_more own (own ++ rest) (λ v is. has_left own rest v is) b.items (marks_in b.items),
      blocks_more rest (own ++ rest) (λ v is. has_right own rest v is) blocks (blocks_in blocks),
    )

every_block : (vs : List VarId) (blocks : List Block) → BlocksIn vs blocks → AllItems (λ i. MarkIn vs i.kind) blocks
every_block vs [] are = λ k d low. absurd (omega (arith, low))
every_block vs (b ∷ blocks) are =
    All-cons (λ (x : Block). All (λ j. MarkIn vs j.kind) x.items) b blocks (every_in vs b.items are.0) (every_block vs blocks are.1)

pub marks_among : (blocks : List Block) → AllItems (λ i. MarkIn (variables_of_function blocks) i.kind) blocks
marks_among blocks =
    let marks = flat_map (λ b. marks_of b.items) blocks in
    every_block (variables_of_function blocks) blocks
    (blocks_more marks (variables_of_function blocks) (λ v is. uses_have [] marks v is) blocks (blocks_in blocks))

-- the same in the words of what every pass keeps
of_one : (vs : List VarId) (v : VarId) → Contains vs (whole v) → Has vs v
of_one [] v (k, low, is) = absurd (omega (arith, low))
of_one (x ∷ vs) v (zero, low, is) = inl (subst (λ (z : VarId). is_same_variable v z ≡ true) (sym is) (same_variable_refl v))
of_one (x ∷ vs) v (suc k, low, is) = inr (of_one vs v (k, omega (arith, low), is))

one_of : (vs : List VarId) (v : VarId) → Wholes vs → Has vs v → Contains vs (whole v)
one_of [] v are none = absurd none
one_of (x ∷ vs) v are (inl same) =
    let is : x ≡ whole v = (λ i. record x { fragment = are.0 i }) ∙ sym (same_wholes v x same) in
    (0, omega arith, is)
one_of (x ∷ vs) v are (inr more) = let c = one_of vs v are.1 more in let low = c.1 in (suc c.0, omega (arith, low), c.2)

pub mark_in : (vs : List VarId) (k : ItemKind) → MarksOneOf vs k → MarkIn vs k
mark_in vs (Mark v m) is = of_one vs v is
mark_in vs (Code i k) is = tt
mark_in vs (Phi p k) is = tt

marks_one : (vs : List VarId) → Wholes vs → (k : ItemKind) → MarkIn vs k → MarksOneOf vs k
marks_one vs are (Mark v m) is = one_of vs v are is
marks_one vs are (Code i k) is = tt
marks_one vs are (Phi p k) is = tt

-- a function marks its own variables
pub own_marks : (blocks : List Block) → AllItems (λ i. MarksOneOf (variables_of_function blocks) i.kind) blocks
own_marks blocks =
    let vs = variables_of_function blocks in
    let are : Wholes vs = wholes_uses [] (flat_map (λ b. marks_of b.items) blocks) tt (blocks_wholes blocks) in
    All-weaker (λ (b : Block). All (λ i. MarkIn vs i.kind) b.items) (λ (b : Block). All (λ i. MarksOneOf vs i.kind) b.items)
    (λ b all. All-weaker (λ (i : Item). MarkIn vs i.kind) (λ (i : Item). MarksOneOf vs i.kind) (λ i is. marks_one vs are i.kind is) b.items all)
    blocks (marks_among blocks)

-- ---- paths

-- a debug value is for another part
abbrev pub MarksOther : VarId → ItemKind → Type 0
MarksOther v (Mark w m) = is_same v w ≡ false
MarksOther v (Code i k) = Unit {0}
MarksOther v (Phi p k) = Unit {0}

module _ (g : Program) (v : VarId) (others : (p : Pos) (i : Item) → g.fetch p ≡ Here i → MarksOther v i.kind) where
  past_mark : (w : VarId) (x : Option Token) (ms : List (VarId × Option Token)) → is_same v w ≡ false → assigned v ms ≡ None → assigned v ((w, x) ∷ ms) ≡ None
  past_mark w x ms apart none =
      ap (λ (b : Bool). cond b x (cond (overlaps v w) None (assigned v ms))) apart ∙ by_test (overlaps v w) where
        by_test : (b : Bool) → cond b None (assigned v ms) ≡ None
        by_test true = refl
        by_test false = none

  -- code and phis leave marks
  past_code : (n : ℕ) (i : Item) (t : Tokens) (k : ItemKind) → i.kind ≡ k → MarksOther v k → variable_token v t ≡ None →
      variable_token v (after_item g.resolve n k t) ≡ None
  past_code n i t (Mark w m) is apart none = past_mark w (mark_token g.resolve m t) t.marks apart none
  past_code n i t (Phi p k) is apart none = none
  past_code n i t (Code c None) is apart none = tokens_pull_back g.resolve n (record i { kind = Code c None } ∷ []) t (OfVariable v) ∙ none
  past_code n i t (Code c (Some k)) is apart none = tokens_pull_back g.resolve n (record i { kind = Code c (Some k) } ∷ []) t (OfVariable v) ∙ none

  past : (n : ℕ) (p : Pos) (t : Tokens) (f : Fetch) → g.fetch p ≡ f → variable_token v t ≡ None → variable_token v (after_fetch g.resolve n f t) ≡ None
  past n p t (Here i) here none = past_code n i t i.kind refl (others p i here) none
  past n p t (EndOfBlock k m) here none = none
  past n p t Outside here none = none

  no_token : {start : Pos} {n : ℕ} {p : Pos} {t : Tokens} → Path g start n p t → variable_token v t ≡ None
  no_token begin = refl
  no_token (onward {n = n} {p = p} {t = t} path edge) = past n p t (g.fetch p) refl (no_token path)

  -- so no place is wanted for the part
  pub nowhere : (start p : Pos) → NoneIsPreferred g start v p
  nowhere start p place named sits =
      let r = sits.reached in
      let k = sits.same r.0 r.1 r.2 in
      let none = no_token r.2 in
      let some : variable_token v r.1 ≡ Some k.0 = k.1 in
      cc

-- nor is one for a part of a variable that isn't among those of which all marks are
module _ (g : Program) (vs : List VarId) (among : (p : Pos) (i : Item) → g.fetch p ≡ Here i → MarkIn vs i.kind) (v : VarId)
    (other : list_any (is_same_variable v) vs ≡ false) where
  not_marked : (w : VarId) → Has vs w → is_same v w ≡ false
  not_marked w has = by_test (is_same v w) refl where
    by_test : (b : Bool) → is_same v w ≡ b → b ≡ false
    by_test false e = refl
    by_test true e =
        let both : true ≡ false = sym (any_has vs v (subst (Has vs) (sym (same_is v w e)) has)) ∙ other in
        absurd cc

  marks_other : (k : ItemKind) → MarkIn vs k → MarksOther v k
  marks_other (Mark w m) has = not_marked w has
  marks_other (Code i k) is = tt
  marks_other (Phi p k) is = tt

  pub unmarked : (start p : Pos) → NoneIsPreferred g start v p
  unmarked start p = nowhere g v (λ q i here. marks_other i.kind (among q i here)) start p
