-- Where what stands for an item begins, and that the same places are wrong there.
use Rattle.std.proofs.Common.{◌≡◌, ◌⊎◌, ◌↔◌, inl, inr, ℕ, zero, suc, ◌+◌, List, [], ◌∷◌, ◌++◌, drop}
use Rattle.std.proofs.Common.{Option, Some, None, Bool, true, false, slice_get, refl, sym, ap, ◌∙◌, subst, arith}
use Rattle.rv64_instr.specs.declared.place.Place.{Place}
use Rattle.rv64_instr.specs.Instruction.{Instruction}
use Rattle.rv64_instr.specs.Row.{Row, Branches, Jumps, Returns, Unfit, row_of}
use Rattle.mir_func.specs.declared.debug_substitution.DebugSubstitution.{DebugSubstitution}
use Rattle.mir_func.specs.declared.position.Pos.{Pos}
use Rattle.mir_func.specs.declared.position.Origin.{Origin}
use Rattle.mir_func.specs.declared.block.Block.{Block}
use Rattle.mir_func.specs.declared.item.Item.{Item}
use Rattle.mir_func.specs.declared.item.ItemKind.{ItemKind}
use Rattle.mir_func.specs.declared.item.ItemKind.TheVariants.{Code, Mark, Phi}
use Rattle.mir_func.specs.Function.{Function}
use Rattle.mir_func.specs.Graph.{Fetch, Here, EndOfBlock, Outside, Program, below, block_start}
use Rattle.mir_func.specs.Graph.{end_of, front, fetch_in, from_block, RowEdge, KindEdge, FetchEdge, Edge, rest_in, rest_of}
use Rattle.sem_mir.specs.Align.{is_code}
use Rattle.sem_mir.specs.Live.{Defines, KindDefines}
use Rattle.dce_round.specs.dce_rule.Dead.{Places, Ends, is_dead, needed_before, needed_at, paths_of}
use Rattle.dce_round.specs.dce_rule.Wrong.{begins_dead, is_dead_at, IsWrongAt, made, on}
use Rattle.dce_round.proofs.dce_rule.Same.{debug_edge, debug_below}
use Rattle.dce_salvage.specs.declared.salvage_numbers.Copied.{Copied}
use Rattle.dce_salvage.specs.SalvageNumbers.{without_number, numbered_copy, phi_by_own, salvage_phi}
use Rattle.dce_proof.specs.SalvageLedger.{Line}
use Rattle.dce_proof.proofs.Lines.{bare_of, LineIs, as_it_was, numbered, by_entry, by_phi, LinesAre, no_lines, next_line, all_now}
use Rattle.dce_proof.proofs.Blocks.{BlocksAre, Found, nowhere, there, lines_for, found_at}

-- ---- indices before and after

abbrev pub over_now : List Item → ℕ → ℕ
over_now [] m = m
over_now (y ∷ ys) m = suc (over_now ys m)

-- where what stands for the item of an index begins
abbrev pub ahead : List Line → ℕ → ℕ
ahead [] k = k
ahead (l ∷ ls) zero = zero
ahead (l ∷ ls) (suc k) = over_now l.now (ahead ls k)

abbrev pub in_now : List Item → ℕ → (further : ℕ → ℕ) → ℕ
in_now [] m further = suc (further m)
in_now (y ∷ ys) zero further = zero
in_now (y ∷ ys) (suc m) further = in_now ys m further

-- the index of the item for which something stands
abbrev pub back : List Line → ℕ → ℕ
back [] m = m
back (l ∷ ls) m = in_now l.now m (λ k. back ls k)

pub ahead_zero : (ls : List Line) → ahead ls 0 ≡ 0
ahead_zero [] = refl
ahead_zero (l ∷ ls) = refl

drop_zero : (xs : List Item) → drop 0 xs ≡ xs
drop_zero [] = refl
drop_zero (x ∷ xs) = refl

drop_nil : (m : ℕ) → ◌≡◌ {A = List Item} (drop m []) []
drop_nil zero = refl
drop_nil (suc m) = refl

drop_over : (ys zs : List Item) (m : ℕ) → drop (over_now ys m) (ys ++ zs) ≡ drop m zs
drop_over [] zs m = refl
drop_over (y ∷ ys) zs m = drop_over ys zs m

over_suc : (ys : List Item) (m : ℕ) → over_now ys (suc m) ≡ suc (over_now ys m)
over_suc [] m = refl
over_suc (y ∷ ys) m = ap suc (over_suc ys m)

over_swap : (ys zs : List Item) (m : ℕ) → over_now ys (over_now zs m) ≡ over_now zs (over_now ys m)
over_swap [] zs m = refl
over_swap (y ∷ ys) zs m = ap suc (over_swap ys zs m) ∙ sym (over_suc zs (over_now ys m))

in_over : (ys : List Item) (a : ℕ) (further : ℕ → ℕ) → in_now ys (over_now ys a) further ≡ suc (further a)
in_over [] a further = refl
in_over (y ∷ ys) a further = in_over ys a further

-- ---- the same code

pub data Alike : ItemKind → ItemKind → Type 0 where
  code : (i : Instruction) (n m : Option ℕ) → Alike (Code i n) (Code i m)
  debug : (k : ItemKind) → is_code k ≡ false → Alike k k

pub alike_itself : (k : ItemKind) → Alike k k
alike_itself (Code i n) = code i n n
alike_itself (Mark v m) = debug (Mark v m) refl
alike_itself (Phi p n) = debug (Phi p n) refl

pub alike_bare : (k : ItemKind) → Alike k (without_number k)
alike_bare (Code i n) = code i n None
alike_bare (Mark v m) = debug (Mark v m) refl
alike_bare (Phi p n) = debug (Phi p n) refl

alike_dead : (k l : ItemKind) (needed : Places) → Alike k l → is_dead k needed ≡ is_dead l needed
alike_dead k l needed (code i n m) = refl
alike_dead k l needed (debug z quiet) = refl

alike_defines : (k l : ItemKind) (x : Place) → Alike k l → KindDefines k x ↔ KindDefines l x
alike_defines k l x (code i n m) = (λ h. h, λ h. h)
alike_defines k l x (debug z quiet) = (λ h. h, λ h. h)

alike_needed : (k l : ItemKind) (needed : Places) → Alike k l → needed_before l needed ≡ needed_before k needed
alike_needed k l needed (code i n m) = refl
alike_needed k l needed (debug z quiet) = refl

-- an edge leads below, or to a block's start, from wherever the code stands
abbrev Ways : ItemKind → (p q : Pos) → Type 0
Ways k p q = ((q ≡ below p) × ((r : Pos) → KindEdge (λ m. m) k r (below r))) ⊎
    ((n : ℕ) × (q ≡ block_start n) × ((r : Pos) → KindEdge (λ m. m) k r (block_start n)))

row_ways : (i : Instruction) (n : Option ℕ) (r : Row) → row_of i ≡ r → (p q : Pos) → RowEdge (λ m. m) r p q → Ways (Code i n) p q
row_ways i n (Branches op a b t) e p q (inl is) = inr (t, is, λ s. subst (λ (z : Row). RowEdge (λ m. m) z s (block_start t)) (sym e) (inl refl))
row_ways i n (Branches op a b t) e p q (inr is) = inl (is, λ s. subst (λ (z : Row). RowEdge (λ m. m) z s (below s)) (sym e) (inr refl))
row_ways i n (Jumps t) e p q is = inr (t, is, λ s. subst (λ (z : Row). RowEdge (λ m. m) z s (block_start t)) (sym e) refl)
row_ways i n (Returns v) e p q is = absurd is
row_ways i n Unfit e p q is = absurd is
row_ways i n _ e p q is = inl (is, λ s. subst (λ (z : Row). RowEdge (λ m. m) z s (below s)) (sym e) refl)

debug_ways : (k : ItemKind) (p q : Pos) → is_code k ≡ false → KindEdge (λ m. m) k p q → Ways k p q
debug_ways (Code i n) p q quiet e = cc
debug_ways (Mark v m) p q quiet e = inl (e, λ r. refl)
debug_ways (Phi x n) p q quiet e = inl (e, λ r. refl)

-- any edge leads below or to a block's start
pub edge_ways : (z : Fetch) (p q : Pos) → FetchEdge (λ m. m) z p q → (q ≡ below p) ⊎ ((n : ℕ) × (q ≡ block_start n))
edge_ways (Here i) p q e = by_kind i.kind e where
  by_kind : (k : ItemKind) → KindEdge (λ m. m) k p q → (q ≡ below p) ⊎ ((n : ℕ) × (q ≡ block_start n))
  by_kind (Code j n) e = elim (row_ways j n (row_of j) refl p q e) [ inl w ↦ inl w.0 | inr w ↦ inr (w.0, w.1) ]
  by_kind (Mark v m) e = inl e
  by_kind (Phi x n) e = inl e
edge_ways (EndOfBlock k n) p q e = inr (n, e)
edge_ways Outside p q e = absurd e

alike_ways : (k l : ItemKind) (p q : Pos) → Alike k l → KindEdge (λ m. m) l p q → Ways k p q
alike_ways k l p q (code i n m) e = row_ways i n (row_of i) refl p q e
alike_ways k l p q (debug z quiet) e = debug_ways z p q quiet e

alike_back : (k l : ItemKind) → Alike k l → Alike l k
alike_back k l (code i n m) = code i m n
alike_back k l (debug z quiet) = debug z quiet

quiet_dead : (k : ItemKind) (needed : Places) → is_code k ≡ false → is_dead k needed ≡ false
quiet_dead (Code i n) needed e = cc
quiet_dead (Mark v m) needed e = refl
quiet_dead (Phi p n) needed e = refl

quiet_defines : (k : ItemKind) (x : Place) → is_code k ≡ false → KindDefines k x → ⊥
quiet_defines (Code i n) x e h = cc
quiet_defines (Mark v m) x e h = h
quiet_defines (Phi p n) x e h = h

pub phi_quiet : (c : Copied) (o : Origin) → is_code (salvage_phi c o).kind ≡ false
phi_quiet c o = by_own c.own where
  by_own : (own : Bool) → is_code (phi_by_own own c.number c.source o).kind ≡ false
  by_own true = refl
  by_own false = refl

quiet_needed : (k : ItemKind) (needed : Places) → is_code k ≡ false → needed_before k needed ≡ needed
quiet_needed (Code i n) needed e = cc
quiet_needed (Mark v m) needed e = refl
quiet_needed (Phi l n) needed e = refl

-- ---- along the lines

pub needed_same : (subs : List DebugSubstitution) (needed : Places) (xs : List Item) (ls : List Line) → LinesAre subs needed xs ls →
    needed_at (all_now ls) needed ≡ needed_at xs needed
needed_same subs needed xs ls no_lines = refl
needed_same subs needed (x ∷ xs) (l ∷ ls) (next_line h rest) = by_line x l h (needed_same subs needed xs ls rest) where
  by_line : (x : Item) (l : Line) → LineIs subs (is_dead x.kind (needed_at xs needed)) x l → needed_at (all_now ls) needed ≡ needed_at xs needed →
      needed_at (l.now ++ all_now ls) needed ≡ needed_before x.kind (needed_at xs needed)
  by_line x l (as_it_was q) e = ap (needed_before x.kind) e
  by_line x l (numbered {i} stays) e = ap (needed_before (Code i None)) e
  by_line x l (by_entry c dead is entry) e =
      alike_needed x.kind (without_number x.kind) (needed_at (all_now ls) needed) (alike_bare x.kind) ∙ ap (needed_before x.kind) e
  by_line x l (by_phi c dead is) e =
      quiet_needed (salvage_phi c x.origin).kind (needed_before (without_number x.kind) (needed_at (all_now ls) needed)) (phi_quiet c x.origin) ∙
      alike_needed x.kind (without_number x.kind) (needed_at (all_now ls) needed) (alike_bare x.kind) ∙ ap (needed_before x.kind) e

first_now : (subs : List DebugSubstitution) (goes : Bool) (x : Item) (l : Line) (further : ℕ → ℕ) → LineIs subs goes x l → in_now l.now 0 further ≡ 0
first_now subs goes x l further (as_it_was q) = refl
first_now subs goes x l further (numbered stays) = refl
first_now subs goes x l further (by_entry c dead is entry) = refl
first_now subs goes x l further (by_phi c dead is) = refl

back_zero : (subs : List DebugSubstitution) (needed : Places) (xs : List Item) (ls : List Line) → LinesAre subs needed xs ls → back ls 0 ≡ 0
back_zero subs needed xs ls no_lines = refl
back_zero subs needed (x ∷ xs) (l ∷ ls) (next_line h rest) = first_now subs (is_dead x.kind (needed_at xs needed)) x l (λ k. back ls k) h

-- the line of an item
pub record LineHere (subs : List DebugSubstitution) (needed : Places) (ls : List Line) (n : ℕ) (x : Item) (us : List Item) : Type 0 where
  pub line : Line
  pub at : slice_get ls n ≡ Some line
  pub is : LineIs subs (is_dead x.kind (needed_at us needed)) x line
  pub rest : List Item
  pub front : drop (ahead ls n) (all_now ls) ≡ line.now ++ rest
  pub next : ahead ls (suc n) ≡ over_now line.now (ahead ls n)
  pub further : drop (ahead ls (suc n)) (all_now ls) ≡ rest
  pub same : needed_at rest needed ≡ needed_at us needed
  pub origin : back ls (ahead ls n) ≡ n

pub line_here : (subs : List DebugSubstitution) (needed : Places) (xs : List Item) (ls : List Line) → LinesAre subs needed xs ls →
    (n : ℕ) (x : Item) (us : List Item) →
    drop n xs ≡ x ∷ us → LineHere subs needed ls n x us
line_here subs needed xs ls no_lines zero x us e = cc
line_here subs needed xs ls no_lines (suc n) x us e = cc
line_here subs needed (y ∷ xs) (l ∷ ls) (next_line h rest) zero x us e =
    let head : y ≡ x = cc in
    let tail : xs ≡ us = cc in
    record {
      line = l;
      at = refl;
      is = subst (λ (z : Item). LineIs subs (is_dead z.kind (needed_at us needed)) z l) head
          (subst (λ (zs : List Item). LineIs subs (is_dead y.kind (needed_at zs needed)) y l) tail h);
      rest = all_now ls;
      front = drop_zero (l.now ++ all_now ls);
      next = ap (over_now l.now) (ahead_zero ls);
      further = drop_over l.now (all_now ls) (ahead ls 0) ∙ ap (λ (k : ℕ). drop k (all_now ls)) (ahead_zero ls) ∙ drop_zero (all_now ls);
      same = needed_same subs needed xs ls rest ∙ ap (λ (zs : List Item). needed_at zs needed) tail;
      origin = first_now subs (is_dead y.kind (needed_at xs needed)) y l (λ k. back ls k) h;
    }
line_here subs needed (y ∷ xs) (l ∷ ls) (next_line h rest) (suc n) x us e =
    let r = line_here subs needed xs ls rest n x us e in
    record {
      line = r.line;
      at = r.at;
      is = r.is;
      rest = r.rest;
      front = drop_over l.now (all_now ls) (ahead ls n) ∙ r.front;
      next = ap (over_now l.now) r.next ∙ over_swap l.now r.line.now (ahead ls n);
      further = drop_over l.now (all_now ls) (ahead ls (suc n)) ∙ r.further;
      same = r.same;
      origin = in_over l.now (ahead ls n) (λ k. back ls k) ∙ ap suc r.origin;
    }

pub past_here : (subs : List DebugSubstitution) (needed : Places) (xs : List Item) (ls : List Line) → LinesAre subs needed xs ls → (n : ℕ) → drop n xs ≡ [] →
    drop (ahead ls n) (all_now ls) ≡ []
past_here subs needed xs ls no_lines n e = drop_nil n
past_here subs needed (x ∷ xs) (l ∷ ls) (next_line h rest) zero e = cc
past_here subs needed (x ∷ xs) (l ∷ ls) (next_line h rest) (suc n) e =
    drop_over l.now (all_now ls) (ahead ls n) ∙ past_here subs needed xs ls rest n e

-- what stands at an index afterwards
pub data Behind (needed : Places) (xs : List Item) (ls : List Line) (m : ℕ) : Type 0 where
  inside : (h : Item) (vs : List Item) → drop m (all_now ls) ≡ h ∷ vs → is_code h.kind ≡ false → back ls (suc m) ≡ back ls m → Behind needed xs ls m
  at_item : (x y : Item) (us vs : List Item) → drop (back ls m) xs ≡ x ∷ us → drop m (all_now ls) ≡ y ∷ vs → Alike x.kind y.kind →
      needed_at vs needed ≡ needed_at us needed → back ls (suc m) ≡ suc (back ls m) → Behind needed xs ls m
  past : drop (back ls m) xs ≡ [] → drop m (all_now ls) ≡ [] → Behind needed xs ls m

single : (subs : List DebugSubstitution) (needed : Places) (x y : Item) (p : Option ℕ) (xs : List Item) (ls : List Line) → LinesAre subs needed xs ls →
    Alike x.kind y.kind → ((k : ℕ) → Behind needed xs ls k) → (m : ℕ) → Behind needed (x ∷ xs) (record { now = y ∷ []; phi = p } ∷ ls) m
single subs needed x y p xs ls lines alike rec zero =
    at_item x y xs (all_now ls) refl refl alike (needed_same subs needed xs ls lines) (ap suc (back_zero subs needed xs ls lines))
single subs needed x y p xs ls lines alike rec (suc m) = shift (rec m) where
  shift : Behind needed xs ls m → Behind needed (x ∷ xs) (record { now = y ∷ []; phi = p } ∷ ls) (suc m)
  shift (inside h vs at quiet same) = inside h vs at quiet (ap suc same)
  shift (at_item u v us vs at at' same needs more) = at_item u v us vs at at' same needs (ap suc more)
  shift (past at at') = past at at'

double : (subs : List DebugSubstitution) (needed : Places) (x h y : Item) (p : Option ℕ) (xs : List Item) (ls : List Line) → LinesAre subs needed xs ls →
    is_code h.kind ≡ false → Alike x.kind y.kind → ((k : ℕ) → Behind needed xs ls k) → (m : ℕ) →
    Behind needed (x ∷ xs) (record { now = h ∷ y ∷ []; phi = p } ∷ ls) m
double subs needed x h y p xs ls lines quiet alike rec zero = inside h (y ∷ all_now ls) refl quiet refl
double subs needed x h y p xs ls lines quiet alike rec (suc zero) =
    at_item x y xs (all_now ls) refl refl alike (needed_same subs needed xs ls lines) (ap suc (back_zero subs needed xs ls lines))
double subs needed x h y p xs ls lines quiet alike rec (suc (suc m)) = shift (rec m) where
  shift : Behind needed xs ls m → Behind needed (x ∷ xs) (record { now = h ∷ y ∷ []; phi = p } ∷ ls) (suc (suc m))
  shift (inside z vs at q same) = inside z vs at q (ap suc same)
  shift (at_item u v us vs at at' same needs more) = at_item u v us vs at at' same needs (ap suc more)
  shift (past at at') = past at at'

pub behind : (subs : List DebugSubstitution) (needed : Places) (xs : List Item) (ls : List Line) → LinesAre subs needed xs ls → (m : ℕ) → Behind needed xs ls m
behind subs needed xs ls no_lines m = past (drop_nil m) (drop_nil m)
behind subs needed (x ∷ xs) (l ∷ ls) (next_line h rest) m = by_line x l h (λ k. behind subs needed xs ls rest k) where
  by_line : (x : Item) (l : Line) → LineIs subs (is_dead x.kind (needed_at xs needed)) x l → ((k : ℕ) → Behind needed xs ls k) →
      Behind needed (x ∷ xs) (l ∷ ls) m
  by_line x l (as_it_was q) rec = single subs needed x x None xs ls rest (alike_itself x.kind) rec m
  by_line x l (numbered {i} {k} {o} {l = d} stays) rec =
      single subs needed x (record x { kind = Code i (Some k) }) None xs ls rest (code i None (Some k)) rec m
  by_line x l (by_entry c dead is entry) rec = single subs needed x (bare_of x) None xs ls rest (alike_bare x.kind) rec m
  by_line x l (by_phi c dead is) rec =
      double subs needed x (salvage_phi c x.origin) (bare_of x) (Some c.source) xs ls rest (phi_quiet c x.origin) (alike_bare x.kind) rec m

-- for which item something stands afterwards: the first thing that stands for it, or the copy below its phi
pub data Whose (subs : List DebugSubstitution) (needed : Places) (xs : List Item) (ls : List Line) (m : ℕ) (y : Item) : Type 0 where
  first_of : (n : ℕ) (x : Item) (us : List Item) (line : Line) → drop n xs ≡ x ∷ us → slice_get ls n ≡ Some line →
      LineIs subs (is_dead x.kind (needed_at us needed)) x line → m ≡ ahead ls n → (more : List Item) → line.now ≡ y ∷ more → Whose subs needed xs ls m y
  copy_of : (x : Item) (c : Copied) → numbered_copy x.kind ≡ Some c → bare_of x ≡ y → Whose subs needed xs ls m y

whose_later : (subs : List DebugSubstitution) (needed : Places) (x : Item) (xs : List Item) (l : Line) (ls : List Line) (m k : ℕ) (y : Item) →
    k ≡ over_now l.now m →
    Whose subs needed xs ls m y → Whose subs needed (x ∷ xs) (l ∷ ls) k y
whose_later subs needed x xs l ls m k y is (first_of n z us line at at_line h e more now) =
    first_of (suc n) z us line at at_line h (is ∙ ap (over_now l.now) e) more now
whose_later subs needed x xs l ls m k y is (copy_of z c copy e) = copy_of z c copy e

pub whose : (subs : List DebugSubstitution) (needed : Places) (xs : List Item) (ls : List Line) → LinesAre subs needed xs ls →
    (m : ℕ) (y : Item) (vs : List Item) →
    drop m (all_now ls) ≡ y ∷ vs → Whose subs needed xs ls m y
whose subs needed xs ls no_lines zero y vs e = cc
whose subs needed xs ls no_lines (suc m) y vs e = cc
whose subs needed (x ∷ xs) (l ∷ ls) (next_line h rest) m y vs e = by_line x l h (λ k. whose subs needed xs ls rest k y vs) m e where
  head_is : (z : Item) (zs : List Item) → z ∷ zs ≡ y ∷ vs → z ≡ y
  head_is z zs e = cc

  one : (x : Item) (z : Item) (p : Option ℕ) → LineIs subs (is_dead x.kind (needed_at xs needed)) x (record { now = z ∷ []; phi = p }) →
      ((k : ℕ) → drop k (all_now ls) ≡ y ∷ vs → Whose subs needed xs ls k y) → (m : ℕ) → drop m (z ∷ all_now ls) ≡ y ∷ vs →
      Whose subs needed (x ∷ xs) (record { now = z ∷ []; phi = p } ∷ ls) m y
  one x z p h rec zero e =
      first_of 0 x xs (record { now = z ∷ []; phi = p }) refl refl h refl [] (let s = head_is z (all_now ls) e in λ t. s t ∷ [])
  one x z p h rec (suc m) e = whose_later subs needed x xs (record { now = z ∷ []; phi = p }) ls m (suc m) y refl (rec m e)

  by_line : (x : Item) (l : Line) → LineIs subs (is_dead x.kind (needed_at xs needed)) x l →
      ((k : ℕ) → drop k (all_now ls) ≡ y ∷ vs → Whose subs needed xs ls k y) →
      (m : ℕ) → drop m (l.now ++ all_now ls) ≡ y ∷ vs → Whose subs needed (x ∷ xs) (l ∷ ls) m y
  by_line x l (as_it_was q) rec m e = one x x None (as_it_was q) rec m e
  by_line x l (numbered {i} {k} {o} {l = d} stays) rec m e = one x (record x { kind = Code i (Some k) }) None (numbered stays) rec m e
  by_line x l (by_entry c dead is entry) rec m e = one x (bare_of x) None (by_entry c dead is entry) rec m e
  by_line x l (by_phi c dead is) rec zero e =
      let z : Item = salvage_phi c x.origin in
      first_of 0 x xs (record { now = salvage_phi c x.origin ∷ bare_of x ∷ []; phi = Some c.source }) refl refl (by_phi c dead is) refl (bare_of x ∷ [])
      (let s = head_is (salvage_phi c x.origin) (bare_of x ∷ all_now ls) e in λ t. s t ∷ bare_of x ∷ [])
  by_line x l (by_phi c dead is) rec (suc zero) e = copy_of x c is (head_is (bare_of x) (all_now ls) e)
  by_line x l (by_phi c dead is) rec (suc (suc m)) e =
      whose_later subs needed x xs (record { now = salvage_phi c x.origin ∷ bare_of x ∷ []; phi = Some c.source }) ls m (suc (suc m)) y refl (rec m e)

-- ---- the paths of both functions

module _ (final : List DebugSubstitution) (ends : Ends) (f g : Function) (lss : List (List Line)) (all : BlocksAre final ends f.blocks lss g.blocks) where
  -- where what stands for the item of a place begins, and the place for which something stands
  abbrev pub forth : Pos → Pos
  forth p = record { block = p.block; item = ahead (lines_for f.blocks lss p.block) p.item }

  abbrev pub home : Pos → Pos
  home q = record { block = q.block; item = back (lines_for f.blocks lss q.block) q.item }

  abbrev fp : Program
  fp = paths_of f

  abbrev gp : Program
  gp = paths_of g

  found : (n : ℕ) → Found final ends n (from_block f.blocks n) (lines_for f.blocks lss n) (from_block g.blocks n)
  found n = found_at final ends f.blocks g.blocks lss all n

  home_start : (n : ℕ) → home (block_start n) ≡ block_start n
  home_start n = by_found (found n) where
    by_found : {us : List Block} {ls : List Line} {vs : List Block} → Found final ends n us ls vs → record { block = n; item = back ls 0 } ≡ block_start n
    by_found nowhere = refl
    by_found (there {b} {c} {ls} id source_end items lines same) = ap (λ (k : ℕ). record { block = n; item = k }) (back_zero final (ends n) b.items ls lines)

  forth_start : (n : ℕ) → forth (block_start n) ≡ block_start n
  forth_start n = ap (λ (k : ℕ). record { block = n; item = k }) (ahead_zero (lines_for f.blocks lss n))

  -- what is known of a step from one position to another
  pub data StepHome (q q' : Pos) : Type 0 where
    still : is_dead_at ends g q ≡ false → home q' ≡ home q → StepHome q q'
    moves : is_dead_at ends f (home q) ≡ is_dead_at ends g q → ((x : Place) → Defines ((paths_of f).fetch (home q)) x ↔ Defines ((paths_of g).fetch q) x) →
        Edge (paths_of f) (home q) (home q') → StepHome q q'

  past_edge : (z : Fetch) (k : ℕ) (bs : List Block) → z ≡ end_of k bs → (p q r : Pos) → FetchEdge (λ m. m) z p q → (n : ℕ) × (q ≡ block_start n) ×
      FetchEdge (λ m. m) z r (block_start n)
  past_edge z k [] is p q r e = absurd (subst (λ (x : Fetch). FetchEdge (λ m. m) x p q) is e)
  past_edge z k (b ∷ bs) is p q r e =
      (b.id, subst (λ (x : Fetch). FetchEdge (λ m. m) x p q) is e, subst (λ (x : Fetch). FetchEdge (λ m. m) x r (block_start b.id)) (sym is) refl)

  past_defines : (z : Fetch) (k : ℕ) (bs : List Block) (x : Place) → z ≡ end_of k bs → Defines z x → ⊥
  past_defines z k [] x is d = subst (λ (w : Fetch). Defines w x) is d
  past_defines z k (b ∷ bs) x is d = subst (λ (w : Fetch). Defines w x) is d

  pub step_home : (q q' : Pos) → Edge (paths_of g) q q' → StepHome q q'
  step_home q q' edge = by_found (found q.block) refl refl refl edge where
    by_found : {us : List Block} {ls : List Line} {vs : List Block} → Found final ends q.block us ls vs → from_block f.blocks q.block ≡ us →
        lines_for f.blocks lss q.block ≡ ls → from_block g.blocks q.block ≡ vs → FetchEdge (λ m. m) (fetch_in vs q.item) q q' → StepHome q q'
    by_found nowhere ef el eg e = absurd e
    by_found (there {b} {c} {ls} {bs} {cs} id source_end items lines same) ef el eg e = by_view (behind final (ends q.block) b.items ls lines q.item) where
      at_home : home q ≡ record { block = q.block; item = back ls q.item }
      at_home = λ t. record { block = q.block; item = back (el t) q.item }

      home_below : home (below q) ≡ record { block = q.block; item = back ls (suc q.item) }
      home_below = let one : q.item + 1 ≡ suc q.item = omega arith in λ t. record { block = q.block; item = back (el t) (one t) }

      rest_g : (zs : List Item) → drop q.item (all_now ls) ≡ zs → rest_of g.blocks q ≡ zs
      rest_g zs at = ap (λ (ds : List Block). rest_in ds q.item) eg ∙ ap (drop q.item) items ∙ at

      fetch_g : (zs : List Item) → drop q.item (all_now ls) ≡ zs → (paths_of g).fetch q ≡ front zs c.source_end cs
      fetch_g zs at = ap (λ (ds : List Block). fetch_in ds q.item) eg ∙ ap (λ (ys : List Item). front (drop q.item ys) c.source_end cs) items ∙
          ap (λ (ys : List Item). front ys c.source_end cs) at

      rest_f : (zs : List Item) → drop (back ls q.item) b.items ≡ zs → rest_of f.blocks (home q) ≡ zs
      rest_f zs at = (λ t. rest_in (ef t) (back (el t) q.item)) ∙ at

      fetch_f : (zs : List Item) → drop (back ls q.item) b.items ≡ zs → (paths_of f).fetch (home q) ≡ front zs b.source_end bs
      fetch_f zs at = (λ t. fetch_in (ef t) (back (el t) q.item)) ∙ ap (λ (ys : List Item). front ys b.source_end bs) at

      by_view : Behind (ends q.block) b.items ls q.item → StepHome q q'
      by_view (inside h vs at quiet back_same) =
          let down : q' ≡ below q = debug_edge h.kind q q' quiet (subst (λ (z : Fetch). FetchEdge (λ m. m) z q q') (fetch_g (h ∷ vs) at) edge) in
          still (ap (λ (xs : List Item). begins_dead xs (ends q.block)) (rest_g (h ∷ vs) at) ∙ quiet_dead h.kind (needed_at vs (ends q.block)) quiet)
          (ap (λ (r : Pos). home r) down ∙ home_below ∙ (λ t. record { block = q.block; item = back_same t }) ∙ sym at_home)
      by_view (at_item x y us vs at_f at_g alike needs more) =
          moves
          (ap (λ (xs : List Item). begins_dead xs (ends q.block)) (rest_f (x ∷ us) at_f) ∙ alike_dead x.kind y.kind (needed_at us (ends q.block)) alike ∙
          ap (is_dead y.kind) (sym needs) ∙ sym (ap (λ (xs : List Item). begins_dead xs (ends q.block)) (rest_g (y ∷ vs) at_g)))
          (λ z. (let d = alike_defines x.kind y.kind z alike in (
            λ h. subst (λ (w : Fetch). Defines w z) (sym (fetch_g (y ∷ vs) at_g)) (d.0 (subst (λ (w : Fetch). Defines w z) (fetch_f (x ∷ us) at_f) h)),
            λ h. subst (λ (w : Fetch). Defines w z) (sym (fetch_f (x ∷ us) at_f)) (d.1 (subst (λ (w : Fetch). Defines w z) (fetch_g (y ∷ vs) at_g) h)),
          )))
          (by_way (alike_ways x.kind y.kind q q' alike (subst (λ (z : Fetch). FetchEdge (λ m. m) z q q') (fetch_g (y ∷ vs) at_g) edge))) where
            to_home : (r : Pos) → KindEdge (λ m. m) x.kind (home q) r → Edge (paths_of f) (home q) r
            to_home r k = subst (λ (w : Fetch). FetchEdge (λ m. m) w (home q) r) (sym (fetch_f (x ∷ us) at_f)) k

            by_way : Ways x.kind q q' → Edge (paths_of f) (home q) (home q')
            by_way (inl w) =
                let last : suc (back ls q.item) ≡ back ls q.item + 1 = omega arith in
                let is : home q' ≡ below (home q) = ap (λ (r : Pos). home r) w.0 ∙ home_below ∙ (λ t. record { block = q.block; item = more t }) ∙
                (λ t. record { block = q.block; item = last t }) ∙ ap below (sym at_home) in
                subst (Edge (paths_of f) (home q)) (sym is) (to_home (below (home q)) (w.1 (home q)))
            by_way (inr w) =
                let is : home q' ≡ block_start w.0 = ap (λ (r : Pos). home r) w.1 ∙ home_start w.0 in
                subst (Edge (paths_of f) (home q)) (sym is) (to_home (block_start w.0) (w.2 (home q)))
      by_view (past at_f at_g) =
          let one : end_of c.source_end cs ≡ end_of b.source_end bs = ap (λ (k : ℕ). end_of k cs) source_end ∙ same b.source_end in
          let w = past_edge ((paths_of g).fetch q) b.source_end bs (fetch_g [] at_g ∙ one) q q' (home q) edge in
          let is : home q' ≡ block_start w.0 = ap (λ (r : Pos). home r) w.1 ∙ home_start w.0 in
          let both : (paths_of g).fetch q ≡ (paths_of f).fetch (home q) = fetch_g [] at_g ∙ one ∙ sym (fetch_f [] at_f) in
          moves
          (ap (λ (xs : List Item). begins_dead xs (ends q.block)) (rest_f [] at_f) ∙
          sym (ap (λ (xs : List Item). begins_dead xs (ends q.block)) (rest_g [] at_g)))
          (λ z. (
            λ h. absurd (past_defines ((paths_of f).fetch (home q)) b.source_end bs z (fetch_f [] at_f) h),
            λ h. absurd (past_defines ((paths_of g).fetch q) b.source_end bs z (fetch_g [] at_g ∙ one) h),
          ))
          (subst (Edge (paths_of f) (home q)) (sym is) (subst (λ (z : Fetch). FetchEdge (λ m. m) z (home q) (block_start w.0)) both w.2))

  made_home : (x : Place) (q q' : Pos) → is_dead_at ends g q ≡ true → Defines ((paths_of g).fetch q) x → StepHome q q' → IsWrongAt ends f x (home q')
  made_home x q q' dead d (still nd same) = let bad : true ≡ false = sym dead ∙ nd in cc
  made_home x q q' dead d (moves dd def edge) = made (home q) (dd ∙ dead) ((def x).1 d) edge

  on_home : (x : Place) (q q' : Pos) → IsWrongAt ends f x (home q) → (is_dead_at ends g q ≡ false → Defines ((paths_of g).fetch q) x → ⊥) →
      StepHome q q' → IsWrongAt ends f x (home q')
  on_home x q q' w ne (still nd same) = subst (IsWrongAt ends f x) (sym same) w
  on_home x q q' w ne (moves dd def edge) = on (home q) w (λ stay d. ne (sym dd ∙ stay) ((def x).0 d)) edge

  -- a place that is wrong afterwards was wrong before
  pub wrong_home : (x : Place) {q : Pos} → IsWrongAt ends g x q → IsWrongAt ends f x (home q)
  wrong_home x (made q dead d edge) = made_home x q _ dead d (step_home q _ edge)
  wrong_home x (on q w ne edge) = on_home x q _ (wrong_home x w) ne (step_home q _ edge)

  -- what is known of a step before
  pub data StepForth (p p' : Pos) : Type 0 where
    direct : is_dead_at ends g (forth p) ≡ is_dead_at ends f p → ((x : Place) → Defines ((paths_of f).fetch p) x ↔ Defines ((paths_of g).fetch (forth p)) x) →
        Edge (paths_of g) (forth p) (forth p') → StepForth p p'
    past_phi : ((x : Place) → Defines ((paths_of g).fetch (forth p)) x → ⊥) → Edge (paths_of g) (forth p) (below (forth p)) →
        is_dead_at ends g (below (forth p)) ≡ is_dead_at ends f p →
        ((x : Place) → Defines ((paths_of f).fetch p) x ↔ Defines ((paths_of g).fetch (below (forth p))) x) →
        Edge (paths_of g) (below (forth p)) (forth p') → StepForth p p'

  -- the code of the item at p, at an index afterwards
  pub record CodeAt (p p' : Pos) (m : ℕ) : Type 0 where
    pub dead : is_dead_at ends g (record { block = p.block; item = m }) ≡ is_dead_at ends f p
    pub def : (x : Place) → Defines ((paths_of f).fetch p) x ↔ Defines ((paths_of g).fetch (record { block = p.block; item = m })) x
    pub edge : Edge (paths_of g) (record { block = p.block; item = m }) (forth p')

  code_at : (p p' : Pos) (m : ℕ) (x y : Item) (us vs : List Item) → rest_of f.blocks p ≡ x ∷ us → (paths_of f).fetch p ≡ Here x →
      rest_of g.blocks (record { block = p.block; item = m }) ≡ y ∷ vs → (paths_of g).fetch (record { block = p.block; item = m }) ≡ Here y →
      Alike x.kind y.kind → needed_at vs (ends p.block) ≡ needed_at us (ends p.block) → forth (below p) ≡ below (record { block = p.block; item = m }) →
      Edge (paths_of f) p p' → CodeAt p p' m
  code_at p p' m x y us vs rest_f fetch_f rest_g fetch_g alike needs next edge = record {
    dead = ap (λ (xs : List Item). begins_dead xs (ends p.block)) rest_g ∙ ap (is_dead y.kind) needs ∙
        sym (alike_dead x.kind y.kind (needed_at us (ends p.block)) alike) ∙ sym (ap (λ (xs : List Item). begins_dead xs (ends p.block)) rest_f);
    def = λ z. (let d = alike_defines x.kind y.kind z alike in (
      λ h. subst (λ (w : Fetch). Defines w z) (sym fetch_g) (d.0 (subst (λ (w : Fetch). Defines w z) fetch_f h)),
      λ h. subst (λ (w : Fetch). Defines w z) (sym fetch_f) (d.1 (subst (λ (w : Fetch). Defines w z) fetch_g h)),
    ));
    edge = by_way (alike_ways y.kind x.kind p p' (alike_back x.kind y.kind alike) (subst (λ (z : Fetch). FetchEdge (λ m. m) z p p') fetch_f edge));
  } where
    r : Pos
    r = record { block = p.block; item = m }

    to_forth : (q : Pos) → KindEdge (λ m. m) y.kind (record { block = p.block; item = m }) q → Edge (paths_of g) (record { block = p.block; item = m }) q
    to_forth q k = subst (λ (w : Fetch). FetchEdge (λ m. m) w (record { block = p.block; item = m }) q) (sym fetch_g) k

    by_way : Ways y.kind p p' → Edge (paths_of g) (record { block = p.block; item = m }) (forth p')
    by_way (inl w) =
        subst (Edge (paths_of g) (record { block = p.block; item = m })) (sym (ap (λ (q : Pos). forth q) w.0 ∙ next))
        (to_forth (below (record { block = p.block; item = m })) (w.1 (record { block = p.block; item = m })))
    by_way (inr w) =
        subst (Edge (paths_of g) (record { block = p.block; item = m })) (sym (ap (λ (q : Pos). forth q) w.1 ∙ forth_start w.0))
        (to_forth (block_start w.0) (w.2 (record { block = p.block; item = m })))

  pub step_forth : (p p' : Pos) → Edge (paths_of f) p p' → StepForth p p'
  step_forth p p' edge = by_found (found p.block) refl refl refl edge where
    by_found : {us : List Block} {ls : List Line} {vs : List Block} → Found final ends p.block us ls vs → from_block f.blocks p.block ≡ us →
        lines_for f.blocks lss p.block ≡ ls → from_block g.blocks p.block ≡ vs → FetchEdge (λ m. m) (fetch_in us p.item) p p' → StepForth p p'
    by_found nowhere ef el eg e = absurd e
    by_found (there {b} {c} {ls} {bs} {cs} id source_end items lines same) ef el eg e = by_rest (drop p.item b.items) refl where
      m : ℕ
      m = ahead ls p.item

      at_forth : record { block = p.block; item = ahead ls p.item } ≡ forth p
      at_forth = λ t. record { block = p.block; item = ahead (sym el t) p.item }

      forth_below : (k : ℕ) → ahead ls (suc p.item) ≡ suc k → forth (below p) ≡ below (record { block = p.block; item = k })
      forth_below k is =
          let one : p.item + 1 ≡ suc p.item = omega arith in
          let last : suc k ≡ k + 1 = omega arith in
          (λ t. record { block = p.block; item = ahead (el t) (one t) }) ∙ (λ t. record { block = p.block; item = is t }) ∙
          (λ t. record { block = p.block; item = last t })

      rest_f : (zs : List Item) → drop p.item b.items ≡ zs → rest_of f.blocks p ≡ zs
      rest_f zs at = ap (λ (ds : List Block). rest_in ds p.item) ef ∙ at

      fetch_f : (zs : List Item) → drop p.item b.items ≡ zs → (paths_of f).fetch p ≡ front zs b.source_end bs
      fetch_f zs at = ap (λ (ds : List Block). fetch_in ds p.item) ef ∙ ap (λ (ys : List Item). front ys b.source_end bs) at

      rest_g : (k : ℕ) (zs : List Item) → drop k (all_now ls) ≡ zs → rest_of g.blocks (record { block = p.block; item = k }) ≡ zs
      rest_g k zs at = ap (λ (ds : List Block). rest_in ds k) eg ∙ ap (drop k) items ∙ at

      fetch_g : (k : ℕ) (zs : List Item) → drop k (all_now ls) ≡ zs → (paths_of g).fetch (record { block = p.block; item = k }) ≡ front zs c.source_end cs
      fetch_g k zs at = ap (λ (ds : List Block). fetch_in ds k) eg ∙ ap (λ (ys : List Item). front (drop k ys) c.source_end cs) items ∙
          ap (λ (ys : List Item). front ys c.source_end cs) at

      directly : CodeAt p p' (ahead ls p.item) → StepForth p p'
      directly k =
          let e : record { block = p.block; item = ahead ls p.item } ≡ forth p = at_forth in
          direct (ap (λ (r : Pos). is_dead_at ends g r) (sym e) ∙ k.dead)
          (λ x. subst (λ (r : Pos). Defines ((paths_of f).fetch p) x ↔ Defines ((paths_of g).fetch r) x) e (k.def x))
          (subst (λ (r : Pos). Edge (paths_of g) r (forth p')) e k.edge)

      one_item : (x y : Item) (us vs : List Item) → drop p.item b.items ≡ x ∷ us → drop (ahead ls p.item) (all_now ls) ≡ y ∷ vs → Alike x.kind y.kind →
          needed_at vs (ends p.block) ≡ needed_at us (ends p.block) → ahead ls (suc p.item) ≡ suc (ahead ls p.item) → StepForth p p'
      one_item x y us vs at at_g alike needs next =
          directly (code_at p p' (ahead ls p.item) x y us vs (rest_f (x ∷ us) at) (fetch_f (x ∷ us) at) (rest_g (ahead ls p.item) (y ∷ vs) at_g)
          (fetch_g (ahead ls p.item) (y ∷ vs) at_g) alike needs (forth_below (ahead ls p.item) next) edge)

      drop_next : (xs : List Item) (n : ℕ) (y z : Item) (ys : List Item) → drop n xs ≡ y ∷ z ∷ ys → drop (suc n) xs ≡ z ∷ ys
      drop_next [] zero y z ys h = cc
      drop_next [] (suc n) y z ys h = cc
      drop_next (x ∷ []) zero y z ys h = cc
      drop_next (x ∷ w ∷ xs) zero y z ys h = let tail : w ∷ xs ≡ z ∷ ys = cc in tail
      drop_next (x ∷ xs) (suc n) y z ys h = drop_next xs n y z ys h

      two_items : (x h y : Item) (us vs : List Item) → drop p.item b.items ≡ x ∷ us → drop (ahead ls p.item) (all_now ls) ≡ h ∷ y ∷ vs →
          is_code h.kind ≡ false → Alike x.kind y.kind → needed_at vs (ends p.block) ≡ needed_at us (ends p.block) →
          ahead ls (suc p.item) ≡ suc (suc (ahead ls p.item)) → StepForth p p'
      two_items x h y us vs at at_g quiet alike needs next =
          let k : ℕ = ahead ls p.item in
          let here : Pos = record { block = p.block; item = ahead ls p.item } in
          let at_y : drop (suc (ahead ls p.item)) (all_now ls) ≡ y ∷ vs = drop_next (all_now ls) (ahead ls p.item) h y vs at_g in
          let second = code_at p p' (suc (ahead ls p.item)) x y us vs (rest_f (x ∷ us) at) (fetch_f (x ∷ us) at)
          (rest_g (suc (ahead ls p.item)) (y ∷ vs) at_y) (fetch_g (suc (ahead ls p.item)) (y ∷ vs) at_y) alike needs
          (forth_below (suc (ahead ls p.item)) next) edge in
          let plus : suc (ahead ls p.item) ≡ ahead ls p.item + 1 = omega arith in
          let down : record { block = p.block; item = suc (ahead ls p.item) } ≡ below (forth p) =
          (λ t. record { block = p.block; item = plus t }) ∙ ap (λ (r : Pos). below r) at_forth in
          let fetch_h : (paths_of g).fetch (forth p) ≡ Here h = ap (λ (r : Pos). (paths_of g).fetch r) (sym at_forth) ∙
          fetch_g (ahead ls p.item) (h ∷ y ∷ vs) at_g in
          past_phi (λ z d. quiet_defines h.kind z quiet (subst (λ (w : Fetch). Defines w z) fetch_h d))
          (subst (λ (w : Fetch). FetchEdge (λ m. m) w (forth p) (below (forth p))) (sym fetch_h) (debug_below h.kind (forth p) quiet))
          (ap (λ (r : Pos). is_dead_at ends g r) (sym down) ∙ second.dead)
          (λ z. subst (λ (r : Pos). Defines ((paths_of f).fetch p) z ↔ Defines ((paths_of g).fetch r) z) down (second.def z))
          (subst (λ (r : Pos). Edge (paths_of g) r (forth p')) down second.edge)

      by_line : (x : Item) (us : List Item) (l : Line) (rest : List Item) → drop p.item b.items ≡ x ∷ us →
          LineIs final (is_dead x.kind (needed_at us (ends p.block))) x l → drop (ahead ls p.item) (all_now ls) ≡ l.now ++ rest →
          ahead ls (suc p.item) ≡ over_now l.now (ahead ls p.item) → needed_at rest (ends p.block) ≡ needed_at us (ends p.block) → StepForth p p'
      by_line x us l rest at (as_it_was q) front next needs = one_item x x us rest at front (alike_itself x.kind) needs next
      by_line x us l rest at (numbered {i} {k} {o} {l = d} stays) front next needs =
          one_item x (record x { kind = Code i (Some k) }) us rest at front (code i None (Some k)) needs next
      by_line x us l rest at (by_entry c dead is entry) front next needs = one_item x (bare_of x) us rest at front (alike_bare x.kind) needs next
      by_line x us l rest at (by_phi c dead is) front next needs =
          two_items x (salvage_phi c x.origin) (bare_of x) us rest at front (phi_quiet c x.origin) (alike_bare x.kind) needs next

      by_rest : (zs : List Item) → drop p.item b.items ≡ zs → StepForth p p'
      by_rest (x ∷ us) at =
          let r = line_here final (ends p.block) b.items ls lines p.item x us at in
          by_line x us r.line r.rest at r.is r.front r.next r.same
      by_rest [] at =
          let at_g = past_here final (ends p.block) b.items ls lines p.item at in
          let one : end_of c.source_end cs ≡ end_of b.source_end bs = ap (λ (k : ℕ). end_of k cs) source_end ∙ same b.source_end in
          let w = past_edge ((paths_of f).fetch p) b.source_end bs (fetch_f [] at) p p' (forth p) edge in
          let is : forth p' ≡ block_start w.0 = ap (λ (r : Pos). forth r) w.1 ∙ forth_start w.0 in
          let there_g : (paths_of g).fetch (forth p) ≡ end_of b.source_end bs =
          ap (λ (r : Pos). (paths_of g).fetch r) (sym at_forth) ∙ fetch_g (ahead ls p.item) [] at_g ∙ one in
          let rest_there : rest_of g.blocks (forth p) ≡ [] =
          ap (λ (r : Pos). rest_of g.blocks r) (sym at_forth) ∙ rest_g (ahead ls p.item) [] at_g in
          let both : (paths_of f).fetch p ≡ (paths_of g).fetch (forth p) = fetch_f [] at ∙ sym there_g in
          direct
          (ap (λ (xs : List Item). begins_dead xs (ends p.block)) rest_there ∙ sym (ap (λ (xs : List Item). begins_dead xs (ends p.block)) (rest_f [] at)))
          (λ z. (
            λ h. absurd (past_defines ((paths_of f).fetch p) b.source_end bs z (fetch_f [] at) h),
            λ h. absurd (past_defines ((paths_of g).fetch (forth p)) b.source_end bs z there_g h),
          ))
          (subst (Edge (paths_of g) (forth p)) (sym is) (subst (λ (z : Fetch). FetchEdge (λ m. m) z (forth p) (block_start w.0)) both w.2))

  made_forth : (x : Place) (p p' : Pos) → is_dead_at ends f p ≡ true → Defines ((paths_of f).fetch p) x → StepForth p p' → IsWrongAt ends g x (forth p')
  made_forth x p p' dead d (direct dd def edge) = made (forth p) (dd ∙ dead) ((def x).0 d) edge
  made_forth x p p' dead d (past_phi none to dd def edge) = made (below (forth p)) (dd ∙ dead) ((def x).0 d) edge

  on_forth : (x : Place) (p p' : Pos) → IsWrongAt ends g x (forth p) → (is_dead_at ends f p ≡ false → Defines ((paths_of f).fetch p) x → ⊥) →
      StepForth p p' → IsWrongAt ends g x (forth p')
  on_forth x p p' w ne (direct dd def edge) = on (forth p) w (λ stay d. ne (sym dd ∙ stay) ((def x).1 d)) edge
  on_forth x p p' w ne (past_phi none to dd def edge) =
      on (below (forth p)) (on (forth p) w (λ stay d. none x d) to) (λ stay d. ne (sym dd ∙ stay) ((def x).1 d)) edge

  -- a place that was wrong before is wrong afterwards
  pub wrong_forth : (x : Place) {p : Pos} → IsWrongAt ends f x p → IsWrongAt ends g x (forth p)
  wrong_forth x (made p dead d edge) = made_forth x p _ dead d (step_forth p _ edge)
  wrong_forth x (on p w ne edge) = on_forth x p _ (wrong_forth x w) ne (step_forth p _ edge)
