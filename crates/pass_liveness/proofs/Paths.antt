-- Liveness over paths, and liveness walked up blocks, where it is known what is live at the starts of blocks: what the
-- walk finds is live if what is known is (`walk_is_live`), and the walk finds all that is live if what is known has
-- what the walk finds at each block's start (`live_is_walked`).
use Rattle.std.proofs.Common.{◌≡◌, ◌⊎◌, ℕ, zero, suc, ◌+◌, Bool, List, [], ◌∷◌, drop, Option, Some, None}
use Rattle.std.proofs.Common.{refl, sym, ap, ◌∙◌, inl, inr, arith, subst}
use Rattle.rv64_instr.specs.declared.place.Place.{Place}
use Rattle.mir_func.specs.declared.position.Pos.{Pos}
use Rattle.mir_func.specs.declared.block.Block.{Block}
use Rattle.mir_func.specs.declared.debug_substitution.OperandPair.{OperandPair}
use Rattle.mir_func.specs.declared.exit.Exit.{Exit}
use Rattle.mir_func.specs.declared.exit.Exit.TheVariants.{Onward, Perhaps, Always, Final}
use Rattle.mir_func.specs.declared.item.Item.{Item}
use Rattle.mir_func.specs.declared.item.ItemKind.{ItemKind}
use Rattle.mir_func.specs.Graph.{Program, Fetch, Here, EndOfBlock, Edge, FetchEdge, below, block_start, front, fetch_in, from_block, program_of}
use Rattle.mir_func.specs.Exits.{exit_of}
use Rattle.mir_func.specs.Successors.{pos_in}
use Rattle.mir_func.proofs.Ways.{IsDown, IsOut}
use Rattle.sem_mir.specs.Live.{Live, used, later, Uses, Defines, KindUses, KindDefines}
use Rattle.pass_liveness.proofs.Edges.{Stays, kind_edge, down_edge, out_edge}

-- ---- the walk, as facts

abbrev pub LiveBefore : Place → ItemKind → Type 0 → Type 0
LiveBefore x k A = KindUses k x ⊎ ((KindDefines k x → ⊥) × A)

abbrev pub LiveAcross : (ℕ → Type 0) → Exit → Type 0 → Type 0
LiveAcross S Onward B = B
LiveAcross S (Perhaps n) B = B ⊎ S n
LiveAcross S (Always n) B = S n
LiveAcross S Final B = ⊥

abbrev pub LivePastEnd : (ℕ → Type 0) → Option ℕ → Type 0
LivePastEnd S None = ⊥
LivePastEnd S (Some n) = S n

abbrev pub LiveFrom : Place → (ℕ → Type 0) → List Item → (next : Option ℕ) → Type 0
LiveFrom x S [] next = LivePastEnd S next
LiveFrom x S (i ∷ is) next = LiveBefore x i.kind (LiveAcross S (exit_of i.kind) (LiveFrom x S is next))

abbrev pub next_of : List Block → Option ℕ
next_of [] = None
next_of (b ∷ bs) = Some b.id

across_cases : (S : ℕ → Type 0) (e : Exit) (B : Type 0) → LiveAcross S e B → (IsDown e × B) ⊎ ((n : ℕ) × IsOut e n × S n)
across_cases S Onward B h = inl (tt, h)
across_cases S (Perhaps n) B (inl h) = inl (tt, h)
across_cases S (Perhaps n) B (inr h) = inr (n, refl, h)
across_cases S (Always n) B h = inr (n, refl, h)
across_cases S Final B h = absurd h

across_down : (S : ℕ → Type 0) (e : Exit) (B : Type 0) → IsDown e → B → LiveAcross S e B
across_down S Onward B d h = h
across_down S (Perhaps n) B d h = inl h
across_down S (Always n) B d h = absurd d
across_down S Final B d h = absurd d

across_out : (S : ℕ → Type 0) (e : Exit) (B : Type 0) (n : ℕ) → IsOut e n → S n → LiveAcross S e B
across_out S Onward B n o h = absurd o
across_out S (Perhaps t) B n o h = inr (subst S (sym o) h)
across_out S (Always t) B n o h = subst S (sym o) h
across_out S Final B n o h = absurd o

-- ---- what the walk finds is live

module _ (sp : Bool) (blocks : List Block) (resolve : OperandPair → Option OperandPair) (x : Place) where
  g : Program
  g = program_of sp blocks resolve

  abbrev Stands : (b k : ℕ) → List Item → ℕ → List Block → Type 0
  Stands b k items s bs = (j : ℕ) → fetch_in (from_block blocks b) (k + j) ≡ front (drop j items) s bs

  one_more : (b k : ℕ) (i : Item) (is : List Item) (s : ℕ) (bs : List Block) → Stands b k (i ∷ is) s bs → Stands b (k + 1) is s bs
  one_more b k i is s bs at j =
      let n : k + 1 + j ≡ k + suc j = omega arith in
      ap (fetch_in (from_block blocks b)) n ∙ at (suc j)

  pub walk_is_live : (S : ℕ → Type 0) → ((n : ℕ) → S n → Live (program_of sp blocks resolve) x (block_start n)) →
      (b k : ℕ) (items : List Item) (s : ℕ) (bs : List Block) →
      ((j : ℕ) → fetch_in (from_block blocks b) (k + j) ≡ front (drop j items) s bs) →
      LiveFrom x S items (next_of bs) → Live (program_of sp blocks resolve) x (pos_in b k)
  walk_is_live S known b k [] s [] at h = absurd h
  walk_is_live S known b k [] s (c ∷ cs) at h =
      let e : fetch_in (from_block blocks b) k ≡ EndOfBlock s c.id = ap (fetch_in (from_block blocks b)) (omega arith) ∙ at 0 in
      later (subst (λ (f : Fetch). Defines f x → ⊥) (sym e) (λ d. d))
      (subst (λ (f : Fetch). FetchEdge Stays f (pos_in b k) (block_start c.id)) (sym e) refl) (known c.id h)
  walk_is_live S known b k (i ∷ is) s bs at h =
      let e : fetch_in (from_block blocks b) k ≡ Here i = ap (fetch_in (from_block blocks b)) (omega arith) ∙ at 0 in
      elim h [
        | inl u ↦ used (subst (λ (f : Fetch). Uses f x) (sym e) u)
        | inr (nd, a) ↦ elim (across_cases S (exit_of i.kind) (LiveFrom x S is (next_of bs)) a) [
          | inl (d, rest) ↦ later (subst (λ (f : Fetch). Defines f x → ⊥) (sym e) nd)
              (subst (λ (f : Fetch). FetchEdge Stays f (pos_in b k) (below (pos_in b k))) (sym e) (down_edge i.kind (pos_in b k) d))
              (walk_is_live S known b (k + 1) is s bs (one_more b k i is s bs at) rest)
          | inr (n, o, there) ↦ later (subst (λ (f : Fetch). Defines f x → ⊥) (sym e) nd)
              (subst (λ (f : Fetch). FetchEdge Stays f (pos_in b k) (block_start n)) (sym e) (out_edge i.kind (pos_in b k) n o)) (known n there)
        ]
      ]

  -- ---- the walk finds what is live

  -- the walk from this index in the first of the blocks
  abbrev pub WalkedIn : (ℕ → Type 0) → List Block → ℕ → Type 0
  WalkedIn S [] k = ⊥
  WalkedIn S (b ∷ bs) k = LiveFrom x S (drop k b.items) (next_of bs)

  used_in : (S : ℕ → Type 0) (fbs : List Block) (k : ℕ) → Uses (fetch_in fbs k) x → WalkedIn S fbs k
  used_in S [] k u = absurd u
  used_in S (b ∷ bs) k u = by_rest (drop k b.items) bs u where
    by_rest : (items : List Item) (bs : List Block) → Uses (front items b.source_end bs) x → LiveFrom x S items (next_of bs)
    by_rest [] [] u = absurd u
    by_rest [] (c ∷ cs) u = absurd u
    by_rest (i ∷ is) bs u = inl u

  drop_more : (items : List Item) (k : ℕ) (i : Item) (is : List Item) → drop k items ≡ i ∷ is → drop (k + 1) items ≡ is
  drop_more items k i is e = let n : k + 1 ≡ suc k = omega arith in ap (λ (j : ℕ). drop j items) n ∙ past items k e where
    past : (items : List Item) (k : ℕ) → drop k items ≡ i ∷ is → drop (suc k) items ≡ is
    past [] zero e = absurd cc
    past [] (suc k) e = absurd cc
    past (y ∷ ys) zero e = let same : ys ≡ is = cc in same
    past (y ∷ ys) (suc k) e = past ys k e

  later_in : (S : ℕ → Type 0) → ((n : ℕ) → WalkedIn S (from_block blocks n) 0 → S n) → (p q : Pos) (fbs : List Block) →
      (Defines (fetch_in fbs p.item) x → ⊥) → FetchEdge Stays (fetch_in fbs p.item) p q →
      ((q ≡ below p) → WalkedIn S fbs (p.item + 1)) → ((n : ℕ) → q ≡ block_start n → S n) → WalkedIn S fbs p.item
  later_in S closed p q [] nd e down out = absurd e
  later_in S closed p q (b ∷ bs) nd e down out = by_rest (drop p.item b.items) bs refl nd e down where
    by_rest : (items : List Item) (bs : List Block) → drop p.item b.items ≡ items → (Defines (front items b.source_end bs) x → ⊥) →
        FetchEdge Stays (front items b.source_end bs) p q → ((q ≡ below p) → LiveFrom x S (drop (p.item + 1) b.items) (next_of bs)) →
        LiveFrom x S items (next_of bs)
    by_rest [] [] s nd e down = absurd e
    by_rest [] (c ∷ cs) s nd e down = out c.id e
    by_rest (i ∷ is) bs s nd e down = inr (
      nd,
      elim (kind_edge i.kind p q e) [
        | inl (t, d) ↦ across_down S (exit_of i.kind) (LiveFrom x S is (next_of bs)) d
            (subst (λ (r : List Item). LiveFrom x S r (next_of bs)) (drop_more b.items p.item i is s) (down t))
        | inr (n, t, o) ↦ across_out S (exit_of i.kind) (LiveFrom x S is (next_of bs)) n o (out n t)
      ],
    )

  walked_later : (S : ℕ → Type 0) → ((n : ℕ) → WalkedIn S (from_block blocks n) 0 → S n) → (p q : Pos) →
      (Defines (fetch_in (from_block blocks p.block) p.item) x → ⊥) → Edge (program_of sp blocks resolve) p q →
      WalkedIn S (from_block blocks q.block) q.item → WalkedIn S (from_block blocks p.block) p.item
  walked_later S closed p q nd e next =
      later_in S closed p q (from_block blocks p.block) nd e
      (λ b. subst (λ (r : Pos). WalkedIn S (from_block blocks r.block) r.item) b next)
      (λ n s. closed n (subst (λ (r : Pos). WalkedIn S (from_block blocks r.block) r.item) s next))

  pub live_is_walked : (S : ℕ → Type 0) → ((n : ℕ) → WalkedIn S (from_block blocks n) 0 → S n) → {p : Pos} →
      Live (program_of sp blocks resolve) x p → WalkedIn S (from_block blocks p.block) p.item
  live_is_walked S closed {p} (used u) = used_in S (from_block blocks p.block) p.item u
  live_is_walked S closed {p} (later nd e l) = walked_later S closed p _ nd e (live_is_walked S closed l)
