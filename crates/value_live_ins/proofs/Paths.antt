-- Paths through the items of a block. Control comes to a position below another only from there, so a path to a position comes
-- down its block from the block's start; and from the start of a block it goes down the items to where they let it out. Past an
-- item that lets control out, and doesn't let it go below or goes below to a jump, nothing changes a token.
use Rattle.std.proofs.Common.{◌≡◌, ◌⊎◌, ℕ, zero, suc, ◌+◌, List, [], ◌∷◌, drop, refl, sym, ap, ◌∙◌, subst, arith, inl, inr}
use Rattle.std.specs.Prelude.{Contains, Option, Some, None, option_to_list}
use Rattle.rv64_instr.specs.Row.{Row, Branches, Jumps, Returns, Unfit, row_of}
use Rattle.mir_func.specs.declared.position.Pos.{Pos}
use Rattle.mir_func.specs.declared.block.Block.{Block}
use Rattle.mir_func.specs.declared.debug_substitution.OperandPair.{OperandPair}
use Rattle.mir_func.specs.declared.exit.Exit.{Exit}
use Rattle.mir_func.specs.declared.exit.Exit.TheVariants.{Onward, Perhaps, Always, Final}
use Rattle.mir_func.specs.declared.item.Item.{Item}
use Rattle.mir_func.specs.declared.item.ItemKind.{ItemKind}
use Rattle.mir_func.specs.declared.item.ItemKind.TheVariants.{Code, Mark, Phi}
use Rattle.mir_func.specs.Exits.{row_exit, exit_of}
use Rattle.mir_func.specs.Graph.{Program, Fetch, Here, EndOfBlock, Outside, below, block_start, end_of, front, Edge, FetchEdge, KindEdge, RowEdge}
use Rattle.mir_func.specs.Successors.{pos_in, ways}
use Rattle.mir_func.proofs.Ways.{IsDown, IsOut, way_back, down_way, contains_cases, contains_none}
use Rattle.sem_mir.specs.ValueId.{Tokens, Path, begin, onward, after_fetch, after_item}
use Rattle.sem_value_ids.specs.Pullback.{Tracked, token_of, after_items}

-- ---- edges from an item

module _ (enter : ℕ → ℕ) (p : Pos) where
  no_start : (n : ℕ) → below p ≡ block_start n → ⊥
  no_start n e = let item : p.item + 1 ≡ 0 = ap (λ (z : Pos). z.item) e in omega (arith, item)

  row_down : (r : Row) → RowEdge enter r p (below p) → IsDown (row_exit r)
  row_down (Jumps target) e = absurd (no_start (enter target) e)
  row_down (Returns ending) e = e
  row_down Unfit e = e
  row_down _ e = tt

  down_row : (r : Row) → IsDown (row_exit r) → RowEdge enter r p (below p)
  down_row (Jumps target) e = absurd e
  down_row (Returns ending) e = absurd e
  down_row Unfit e = absurd e
  down_row (Branches op a b target) e = inr refl
  down_row _ e = refl

  kind_down : (k : ItemKind) → KindEdge enter k p (below p) → IsDown (exit_of k)
  kind_down (Code i k) e = row_down (row_of i) e
  kind_down (Mark v m) e = tt
  kind_down (Phi r k) e = tt

  down_kind : (k : ItemKind) → IsDown (exit_of k) → KindEdge enter k p (below p)
  down_kind (Code i k) e = down_row (row_of i) e
  down_kind (Mark v m) e = refl
  down_kind (Phi r k) e = refl

  out_row : (r : Row) (n : ℕ) → IsOut (row_exit r) n → RowEdge enter r p (block_start (enter n))
  out_row (Branches op a b target) n e = inl (ap (λ (z : ℕ). block_start (enter z)) (sym e))
  out_row (Jumps target) n e = ap (λ (z : ℕ). block_start (enter z)) (sym e)
  out_row _ n e = absurd e

  out_kind : (k : ItemKind) (n : ℕ) → IsOut (exit_of k) n → KindEdge enter k p (block_start (enter n))
  out_kind (Code i k) n e = out_row (row_of i) n e
  out_kind (Mark v m) n e = absurd e
  out_kind (Phi r k) n e = absurd e

  -- where an edge to the start of a block comes from: the item lets control out to a number of it
  abbrev pub LetsOut : Exit → (c : ℕ) → Type 0
  LetsOut x c = (n : ℕ) × IsOut x n × (c ≡ enter n)

  start_of : (c n : ℕ) → block_start c ≡ block_start n → c ≡ n
  start_of c n e = ap (λ (z : Pos). z.block) e

  row_out : (r : Row) (c : ℕ) → RowEdge enter r p (block_start c) → LetsOut (row_exit r) c
  row_out (Branches op a b target) c (inl e) = (target, refl, start_of c (enter target) e)
  row_out (Branches op a b target) c (inr e) = absurd (no_start c (sym e))
  row_out (Jumps target) c e = (target, refl, start_of c (enter target) e)
  row_out (Returns ending) c e = absurd e
  row_out Unfit c e = absurd e
  row_out _ c e = absurd (no_start c (sym e))

  pub kind_out : (k : ItemKind) (c : ℕ) → KindEdge enter k p (block_start c) → LetsOut (exit_of k) c
  kind_out (Code i k) c e = row_out (row_of i) c e
  kind_out (Mark v m) c e = absurd (no_start c (sym e))
  kind_out (Phi r k) c e = absurd (no_start c (sym e))

-- ---- only the item above leads below

module _ (enter : ℕ → ℕ) (p q : Pos) where
  one_below : below q ≡ below p → q ≡ p
  one_below e =
      let block : q.block ≡ p.block = ap (λ (z : Pos). z.block) e in
      let next : q.item + 1 ≡ p.item + 1 = ap (λ (z : Pos). z.item) e in
      let item : q.item ≡ p.item = omega (arith, next) in
      λ i. record { block = block i; item = item i }

  row_above : (r : Row) → RowEdge enter r q (below p) → q ≡ p
  row_above (Branches op a b target) (inl e) = absurd (no_start enter p (enter target) e)
  row_above (Branches op a b target) (inr e) = one_below (sym e)
  row_above (Jumps target) e = absurd (no_start enter p (enter target) e)
  row_above (Returns ending) e = absurd e
  row_above Unfit e = absurd e
  row_above _ e = one_below (sym e)

  kind_above : (k : ItemKind) → KindEdge enter k q (below p) → q ≡ p
  kind_above (Code i k) e = row_above (row_of i) e
  kind_above (Mark v m) e = one_below (sym e)
  kind_above (Phi r k) e = one_below (sym e)

  fetch_above : (f : Fetch) → FetchEdge enter f q (below p) → q ≡ p
  fetch_above (Here i) e = kind_above i.kind e
  fetch_above (EndOfBlock k n) e = absurd (no_start enter p (enter n) e)
  fetch_above Outside e = absurd e

-- a path to the position below is one to the position, one step shorter, and the edge
record FromAbove (g : Program) (start p : Pos) (m : ℕ) (u : Tokens) : Type 0 where
  count : ℕ
  tokens : Tokens
  path : Path g start count p tokens
  edge : Edge g p (below p)
  one_more : m ≡ suc count
  passed : u ≡ after_fetch g.resolve count (g.fetch p) tokens

from_above : {g : Program} {start q : Pos} {m : ℕ} {u : Tokens} → (p : Pos) → (start ≡ below p → ⊥) → q ≡ below p → Path g start m q u → FromAbove g start p m u
from_above p first e begin = absurd (first e)
from_above {g = g} {start = start} p first e (onward {n = n} {p = s} {q = q} {t = t} path edge) =
    let edge_below : Edge g s (below p) = subst (λ (z : Pos). Edge g s z) e edge in
    let at : s ≡ p = fetch_above g.enter p s (g.fetch s) edge_below in
    record {
      count = n;
      tokens = t;
      path = subst (λ (z : Pos). Path g start n z t) at path;
      edge = subst (λ (z : Pos). Edge g z (below p)) at edge_below;
      one_more = refl;
      passed = ap (λ (z : Pos). after_fetch g.resolve n (g.fetch z) t) at;
    }

-- ---- what changes no token

-- whatever has which token before the items has it after them
pub record IsQuiet (items : List Item) : Type 0 where
  pub keeps : (resolve : OperandPair → Option OperandPair) (n : ℕ) (t : Tokens) (x : Tracked) → token_of x (after_items resolve n items t) ≡ token_of x t

-- past an item by which control may leave the block all is quiet
abbrev pub QuietPast : Exit → List Item → Type 0
QuietPast Onward rest = Unit {0}
QuietPast (Perhaps n) rest = IsQuiet rest
QuietPast (Always n) rest = IsQuiet rest
QuietPast Final rest = Unit {0}

abbrev pub EndsQuietly : List Item → Type 0
EndsQuietly [] = Unit {0}
EndsQuietly (i ∷ rest) = QuietPast (exit_of i.kind) rest × EndsQuietly rest

pub quiet_out : (x : Exit) (n : ℕ) (rest : List Item) → IsOut x n → QuietPast x rest → IsQuiet rest
quiet_out Onward n rest out h = absurd out
quiet_out (Perhaps t) n rest out h = h
quiet_out (Always t) n rest out h = h
quiet_out Final n rest out h = absurd out

abbrev pub head_id : List Block → Option ℕ
head_id [] = None
head_id (b ∷ bs) = Some b.id

-- ---- from the start of a block out of it

module _ (g : Program) where
  abbrev first : Pos
  first = block_start 0

  -- a path goes on to a block, and past the items the tokens are those there
  pub record GoesOut (items : List Item) (n : ℕ) (u : Tokens) (c : ℕ) : Type 0 where
    pub steps : ℕ
    pub tokens : Tokens
    pub path : Path g first steps (block_start c) tokens
    pub same : (x : Tracked) → token_of x tokens ≡ token_of x (after_items g.resolve n items u)

  abbrev Shows : (b j : ℕ) → List Item → (source_end : ℕ) → List Block → Type 0
  Shows b j items s bs = (k : ℕ) → g.fetch (pos_in b (j + k)) ≡ front (drop k items) s bs

  at_first : (b j : ℕ) (items : List Item) (s : ℕ) (bs : List Block) → Shows b j items s bs → g.fetch (pos_in b j) ≡ front items s bs
  at_first b j items s bs shows =
      let e : j + 0 ≡ j = omega arith in
      ap (λ (z : ℕ). g.fetch (pos_in b z)) (sym e) ∙ shows 0

  at_rest : (b j : ℕ) (i : Item) (rest : List Item) (s : ℕ) (bs : List Block) → Shows b j (i ∷ rest) s bs → Shows b (j + 1) rest s bs
  at_rest b j i rest s bs shows k =
      let e : j + 1 + k ≡ j + suc k = omega arith in
      ap (λ (z : ℕ). g.fetch (pos_in b z)) e ∙ shows (suc k)

  -- by an item's way out
  by_item : (b j n : ℕ) (u : Tokens) (i : Item) (rest : List Item) (m : ℕ) → Path g first n (pos_in b j) u → g.fetch (pos_in b j) ≡ Here i →
      IsOut (exit_of i.kind) m → IsQuiet rest → GoesOut (i ∷ rest) n u (g.enter m)
  by_item b j n u i rest m path here out quiet =
      let edge = subst (λ (f : Fetch). FetchEdge g.enter f (pos_in b j) (block_start (g.enter m))) (sym here)
      (out_kind g.enter (pos_in b j) i.kind m out) in
      record {
        steps = suc n;
        tokens = after_fetch g.resolve n (g.fetch (pos_in b j)) u;
        path = onward path edge;
        same = λ x. ap (λ (f : Fetch). token_of x (after_fetch g.resolve n f u)) here
            ∙ sym (quiet.keeps g.resolve (suc n) (after_item g.resolve n i.kind u) x);
      }

  by_end : (b j n : ℕ) (u : Tokens) (s : ℕ) (bs : List Block) (m : ℕ) → Path g first n (pos_in b j) u → g.fetch (pos_in b j) ≡ end_of s bs →
      Contains (option_to_list (head_id bs)) m → GoesOut [] n u (g.enter m)
  by_end b j n u s [] m path here h = absurd (contains_none m h)
  by_end b j n u s (next ∷ bs) m path here h = elim (contains_cases next.id m [] h) [
    | inl e ↦
        let edge = subst (λ (f : Fetch). FetchEdge g.enter f (pos_in b j) (block_start (g.enter m))) (sym here)
        (ap (λ (z : ℕ). block_start (g.enter z)) (sym e)) in
        record {
          steps = suc n;
          tokens = after_fetch g.resolve n (g.fetch (pos_in b j)) u;
          path = onward path edge;
          same = λ x. ap (λ (f : Fetch). token_of x (after_fetch g.resolve n f u)) here;
        }
    | inr c ↦ absurd (contains_none m c)
  ]

  pub go_out : (b j n : ℕ) (u : Tokens) (items : List Item) (s : ℕ) (bs : List Block) (m : ℕ) → Path g first n (pos_in b j) u → Shows b j items s bs →
      EndsQuietly items → Contains (ways items (head_id bs)) m → GoesOut items n u (g.enter m)
  go_out b j n u [] s bs m path shows quiet h = by_end b j n u s bs m path (at_first b j [] s bs shows) h
  go_out b j n u (i ∷ rest) s bs m path shows quiet h =
      by_way (way_back (exit_of i.kind) m (ways rest (head_id bs)) h)
      (λ d c. go_out b (j + 1) (suc n) (after_item g.resolve n i.kind u) rest s bs m (below_path d) (at_rest b j i rest s bs shows) quiet.1 c) where
        here : g.fetch (pos_in b j) ≡ Here i
        here = at_first b j (i ∷ rest) s bs shows

        below_path : IsDown (exit_of i.kind) → Path g first (suc n) (pos_in b (j + 1)) (after_item g.resolve n i.kind u)
        below_path d =
            let edge = subst (λ (f : Fetch). FetchEdge g.enter f (pos_in b j) (below (pos_in b j))) (sym here)
            (down_kind g.enter (pos_in b j) i.kind d) in
            subst (λ (f : Fetch). Path g first (suc n) (below (pos_in b j)) (after_fetch g.resolve n f u)) here (onward path edge)

        by_way : (IsOut (exit_of i.kind) m ⊎ (IsDown (exit_of i.kind) × Contains (ways rest (head_id bs)) m)) →
            (IsDown (exit_of i.kind) → Contains (ways rest (head_id bs)) m → GoesOut rest (suc n) (after_item g.resolve n i.kind u) (g.enter m)) →
            GoesOut (i ∷ rest) n u (g.enter m)
        by_way (inl out) more = by_item b j n u i rest m path here out (quiet_out (exit_of i.kind) m rest out quiet.0)
        by_way (inr (d, c)) more =
            let o = more d c in
            record { steps = o.steps; tokens = o.tokens; path = o.path; same = o.same }

  -- ---- back to the start of the block

  pub record FromStart (b k m : ℕ) (u : Tokens) (items : List Item) (next : Option ℕ) : Type 0 where
    pub steps : ℕ
    pub tokens : Tokens
    pub path : Path g first steps (block_start b) tokens
    pub count : m ≡ steps + k
    pub same : after_items g.resolve m (drop k items) u ≡ after_items g.resolve steps items tokens
    pub down : (n : ℕ) → Contains (ways (drop k items) next) n → Contains (ways items next) n

  abbrev ShowsAll : (b : ℕ) → List Item → (source_end : ℕ) → List Block → Type 0
  ShowsAll b items s bs = (k : ℕ) → g.fetch (pos_in b k) ≡ front (drop k items) s bs

  not_below : (p : Pos) → first ≡ below p → ⊥
  not_below p e = let item : 0 ≡ p.item + 1 = ap (λ (z : Pos). z.item) e in omega (arith, item)

  end_stays : (p : Pos) (s : ℕ) (bs : List Block) → FetchEdge g.enter (end_of s bs) p (below p) → ⊥
  end_stays p s [] e = e
  end_stays p s (b ∷ bs) e = no_start g.enter p (g.enter b.id) e

  drop_more : (k : ℕ) (items : List Item) (i : Item) (rest : List Item) → drop k items ≡ i ∷ rest → drop (suc k) items ≡ rest
  drop_more zero [] i rest e = cc
  drop_more zero (x ∷ xs) i rest e = cc
  drop_more (suc k) [] i rest e = cc
  drop_more (suc k) (x ∷ xs) i rest e = drop_more k xs i rest e

  pub from_start : (b k m : ℕ) (u : Tokens) (items : List Item) (s : ℕ) (bs : List Block) → ShowsAll b items s bs → Path g first m (pos_in b k) u →
      FromStart b k m u items (head_id bs)
  from_start b zero m u items s bs shows path = record {
    steps = m;
    tokens = u;
    path = path;
    count = omega arith;
    same = refl;
    down = λ n h. h;
  }
  from_start b (suc k) m u items s bs shows path = by_rest above (from_start b k above.count above.tokens items s bs shows above.path) (drop k items) refl where
    one_less : pos_in b (suc k) ≡ below (pos_in b k)
    one_less = let e : suc k ≡ k + 1 = omega arith in ap (λ (z : ℕ). pos_in b z) e

    above : FromAbove g first (pos_in b k) m u
    above = from_above (pos_in b k) (not_below (pos_in b k)) one_less path

    by_rest : (a : FromAbove g first (pos_in b k) m u) → FromStart b k a.count a.tokens items (head_id bs) → (ds : List Item) → drop k items ≡ ds →
        FromStart b (suc k) m u items (head_id bs)
    by_rest a f [] e =
        absurd (end_stays (pos_in b k) s bs (subst (λ (z : Fetch). FetchEdge g.enter z (pos_in b k) (below (pos_in b k)))
        (shows k ∙ ap (λ (z : List Item). front z s bs) e) a.edge))
    by_rest a f (i ∷ rest) e =
        let here : g.fetch (pos_in b k) ≡ Here i = shows k ∙ ap (λ (z : List Item). front z s bs) e in
        let d = kind_down g.enter (pos_in b k) i.kind (subst (λ (z : Fetch). FetchEdge g.enter z (pos_in b k) (below (pos_in b k))) here a.edge) in
        let less : drop (suc k) items ≡ rest = drop_more k items i rest e in
        let tokens : u ≡ after_item g.resolve a.count i.kind a.tokens =
        a.passed ∙ ap (λ (z : Fetch). after_fetch g.resolve a.count z a.tokens) here in
        record {
          steps = f.steps;
          tokens = f.tokens;
          path = f.path;
          count = omega (arith, f.count, a.one_more);
          same = (λ z. after_items g.resolve (a.one_more z) (less z) (tokens z))
              ∙ ap (λ (z : List Item). after_items g.resolve a.count z a.tokens) (sym e) ∙ f.same;
          down = λ n h. f.down n (subst (λ (z : List Item). Contains (ways z (head_id bs)) n) (sym e)
              (down_way (exit_of i.kind) n (ways rest (head_id bs)) d (subst (λ (z : List Item). Contains (ways z (head_id bs)) n) less h)));
        }
