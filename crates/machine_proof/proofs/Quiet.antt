-- A function with its frame comes from the source: what was added before a position and the next code that comes from it have no mark
-- between them that gives a variable a value, since origins go up in a block, and what is added before a position comes before what is kept
-- of it.
use Rattle.std.proofs.Common.{◌≡◌, ◌⊎◌, ℕ, zero, suc, ◌+◌, ◌*◌, ◌<◌, ◌≤◌, List, [], ◌∷◌, drop, slice_get, Option, Some, None, true, false, refl, sym, ap}
use Rattle.std.proofs.Common.{◌∙◌, subst, inl, inr, arith}
use Rattle.std.proofs.lemmas.Bool.{cases_lt}
use Rattle.std.proofs.lemmas.List.Elements.{All-contains}
use Rattle.mir_func.specs.declared.block.Block.{Block}
use Rattle.mir_func.specs.declared.debug_substitution.OperandPair.{OperandPair}
use Rattle.mir_func.specs.declared.exit.Exit.TheVariants.{Onward, Perhaps}
use Rattle.mir_func.specs.declared.item.Item.{Item}
use Rattle.mir_func.specs.declared.item.ItemKind.{ItemKind}
use Rattle.mir_func.specs.declared.item.ItemKind.TheVariants.{Code, Mark, Phi}
use Rattle.mir_func.specs.declared.position.Origin.{Origin}
use Rattle.mir_func.specs.declared.position.Origin.TheVariants.{Kept, Before}
use Rattle.mir_func.specs.declared.position.Pos.{Pos}
use Rattle.mir_func.specs.declared.variable.MarkValue.{MarkValue}
use Rattle.mir_func.specs.declared.variable.MarkValue.TheVariants.{Nothing, Constant, At, Pair}
use Rattle.mir_func.specs.declared.variable.VarId.{VarId}
use Rattle.mir_func.specs.Exits.{exit_of}
use Rattle.mir_func.specs.Function.{Function}
use Rattle.mir_func.specs.Graph.{Here, Program, below, program_of}
use Rattle.mir_func.specs.Sound.{ids_of}
use Rattle.mir_func.specs.SoundFrame.{IsFramed}
use Rattle.mir_func.specs.Positions.{position_of}
use Rattle.sem_mir.specs.Align.{is_code}
use Rattle.sem_mir.specs.Follow.{MarkFits, rank, next_rank}
use Rattle.sem_simulation.proofs.Order.{rank_high}
use Rattle.machine_steps_proof.specs.Laid.{fetched}
use Rattle.machine_steps_proof.proofs.Points.{got, dropped}
use Rattle.machine_proof.specs.Runs.{AssignsNothing, FallsTo, ComesFrom}
use Rattle.frame_rule.specs.Rule.{size_of, saved_of, framed_items, framed_of}
use Rattle.machine_proof.specs.Framing.{IsMadeFrom, FramedComesFrom}
use Rattle.machine_proof.proofs.Framed.{prologue_is, frame_onward, IsFramedItem, own, gives_back, framed_item_is, InPrologue, InBlock, point_of}
use Rattle.machine_proof.proofs.Framed.{in_order_below}
use Rattle.machine_proof.proofs.Comes.{added_at, returns_at, falls_down, branch_kept, apart_at, block_order, home_of, index_of_home}

-- a mark that was added assigns nothing
added_mark : (v : VarId) (m : MarkValue) (q : Pos) → MarkFits (Mark v m) (Before q) → m ≡ Nothing
added_mark v Nothing q h = refl
added_mark v (Constant c) q h = absurd h
added_mark v (At r) q h = absurd h
added_mark v (Pair p) q h = absurd h

not_both : (p q : Pos) → Kept p ≡ Before q → ⊥
not_both p q e = cc

onward_perhaps : (n : ℕ) → Onward ≡ Perhaps n → ⊥
onward_perhaps n e = cc

module _ (source f : Function) (resolve fresolve : OperandPair →
    Option OperandPair) (made : IsMadeFrom source f resolve fresolve) (framed : IsFramed (framed_of f)) where
  abbrev src : Program
  src = program_of true source.blocks resolve

  kept_at : (p q : Pos) (i : Item) (n : ℕ) → fetched (framed_of f) p ≡ Here i → exit_of i.kind ≡ Perhaps n → i.origin ≡ Before q → ⊥
  kept_at p q i n e exit origin = elim (point_of f p i e) as (λ _. ⊥) [
    | inl pro ↦ onward_perhaps n
        (sym (frame_onward pro.is.instruction (prologue_is (size_of f) (saved_of f) pro.is.instruction pro.is.member)) ∙ ap exit_of (sym pro.is.kind) ∙ exit)
    | inr blk ↦
        (let k = branch_kept source f resolve fresolve made framed p i n blk exit (framed_item_is f blk.block.items p.item i blk.stands) in
        not_both k.0 q (sym k.1 ∙ origin))
  ]

  -- of two items of a block the one below has the higher origin
  rank_below : (p q : Pos) (i j : Item) (a : InBlock f p i) (b : InBlock f q j) → a.index ≡ b.index → p.item < q.item → next_rank i.origin ≤ rank j.origin
  rank_below p q i j a b e lt =
      let w : a.block ∷ a.rest ≡ b.block ∷ b.rest = sym a.found ∙ ap (λ (z : ℕ). drop z f.blocks) e ∙ b.found in
      let same : a.block ≡ b.block = cc in
      let m = got f.blocks a.index a.block (dropped f.blocks a.index a.block a.rest a.found) in
      let stands : slice_get (framed_items f a.block.items) q.item ≡ Some j = ap (λ (z : Block). slice_get (framed_items f z.items) q.item) same ∙ b.stands in
      in_order_below a.block.id 0 (framed_items f a.block.items) (block_order source f resolve fresolve made framed a.block m) p.item q.item i j a.stands
      stands lt

  -- nothing that is kept of a position stands above code that comes from a position at or below it
  not_above : (q r o k : Pos) (d j : Item) (b : InBlock f q d) (c : InBlock f r j) → b.index ≡ c.index → q.item < r.item → 2 * o.item ≤ rank d.origin →
      position_of j.origin ≡ o → d.origin ≡ Kept k → ⊥
  not_above q r o k d j b c e lt low from kept =
      let under = rank_below q r d j b c e lt in
      let up = rank_high j.origin in
      let next : next_rank d.origin ≡ 2 * k.item + 2 = ap next_rank kept in
      let own : rank d.origin ≡ 2 * k.item + 1 = ap rank kept in
      let item : (position_of j.origin).item ≡ o.item = ap (λ (z : Pos). z.item) from in
      omega (arith, under, up, next, own, item, low)

  id_first : (bs : List Block) (x : Block) (rest : List Block) → bs ≡ x ∷ rest → slice_get (ids_of bs) 0 ≡ Some x.id
  id_first bs x rest e = ap (λ (ys : List Block). slice_get (ids_of ys) 0) e

  id_at : (bs : List Block) (k : ℕ) (d : Block) → slice_get bs k ≡ Some d → slice_get (ids_of bs) k ≡ Some d.id
  id_at [] k d e = cc
  id_at (b ∷ bs) zero d e = let one : b ≡ d = cc in ap (λ (x : Block). Some x.id) one
  id_at (b ∷ bs) (suc k) d e = id_at bs k d e

  -- a mark that is kept doesn't stand between what was added before a position and code that comes from it
  module _ (p q r o : Pos) (i d j : Item) (origin : i.origin ≡ Before o) (from : position_of j.origin ≡ o) (k : Pos) (kept : d.origin ≡ Kept k)
      (b : InBlock f q d) (c : InBlock f r j) (apart : q.item ≡ r.item → b.index ≡ c.index → ⊥)
      (upper : ((q.block ≡ p.block) × (p.item + 1 ≤ q.item)) ⊎ (p.block < q.block)) (lower : ((r.block ≡ q.block) × (q.item ≤ r.item)) ⊎ (q.block < r.block))
    where
      home : (position_of i.origin).block ≡ c.block.id
      home = ap (λ (z : Origin). (position_of z).block) origin ∙ ap (λ (z : Pos). z.block) (sym from) ∙ home_of source f resolve fresolve made framed r j c

      -- in one block
      within : b.index ≡ c.index → 2 * o.item ≤ rank d.origin → ⊥
      within e low = by_lower lower where
        by_lower : ((r.block ≡ q.block) × (q.item ≤ r.item)) ⊎ (q.block < r.block) → ⊥
        by_lower (inr lt) = let x = b.at in let y = c.at in omega (arith, x, y, e, lt)
        by_lower (inl (same, le)) = elim (cases_lt q.item r.item) as (λ _. ⊥) [
          | inl lt ↦ not_above q r o k d j b c e lt low from kept
          | inr ge ↦ apart (omega (arith, le, ge)) e
        ]

      from_prologue : InPrologue f p i → ⊥
      from_prologue pro = within first (ap_low pro) where
        first_index : 0 ≡ c.index
        first_index = made.sound.blocks_apart 0 c.index c.block.id
            (id_first f.blocks pro.first pro.rest pro.blocks ∙ ap Some (sym (ap (λ (z : Origin). (position_of z).block) pro.is.origin) ∙ home))
            (id_at f.blocks c.index c.block (dropped f.blocks c.index c.block c.rest c.found))

        first : b.index ≡ c.index
        first = by_lower lower where
          by_lower : ((r.block ≡ q.block) × (q.item ≤ r.item)) ⊎ (q.block < r.block) → b.index ≡ c.index
          by_lower (inl (same, le)) = let x = b.at in let y = c.at in omega (arith, x, y, same)
          by_lower (inr lt) = let x = b.at in let y = c.at in let z = first_index in absurd (omega (arith, x, y, lt, z))

        ap_low : InPrologue f p i → 2 * o.item ≤ rank d.origin
        ap_low pro =
            let at : (position_of i.origin).item ≡ 0 = ap (λ (z : Origin). (position_of z).item) pro.is.origin in
            let is : (position_of i.origin).item ≡ o.item = ap (λ (z : Origin). (position_of z).item) origin in
            omega (arith, at, is)

      from_block : InBlock f p i → ⊥
      from_block a = within (bc.1) low where
        indices : a.index ≡ c.index
        indices = index_of_home source f resolve fresolve made framed p r i j a c (sym (home_of source f resolve fresolve made framed p i a) ∙ home)

        bc : (a.index ≡ b.index) × (b.index ≡ c.index) × (p.item < q.item)
        bc = by_ways upper lower where
          x : p.block ≡ suc a.index
          x = a.at

          y : q.block ≡ suc b.index
          y = b.at

          z : r.block ≡ suc c.index
          z = c.at

          by_ways : ((q.block ≡ p.block) × (p.item + 1 ≤ q.item)) ⊎ (p.block < q.block) → ((r.block ≡ q.block) × (q.item ≤ r.item)) ⊎ (q.block < r.block) →
              (a.index ≡ b.index) × (b.index ≡ c.index) × (p.item < q.item)
          by_ways (inl (same, le)) (inl (also, more)) =
              let w = indices in
              let h = x in
              let v = y in
              let u = z in
              (omega (arith, h, v, same), omega (arith, v, u, also), omega (arith, le))
          by_ways (inl (same, le)) (inr lt) = let w = indices in let h = x in let v = y in let u = z in absurd (omega (arith, h, v, u, same, lt, w))
          by_ways (inr lt) (inl (also, more)) = let w = indices in let h = x in let v = y in let u = z in absurd (omega (arith, h, v, u, also, lt, w))
          by_ways (inr lt) (inr more) = let w = indices in let h = x in let v = y in let u = z in absurd (omega (arith, h, v, u, more, lt, w))

        low : 2 * o.item ≤ rank d.origin
        low =
            let up = rank_below p q i d a b bc.0 bc.2 in
            let is : next_rank i.origin ≡ 2 * o.item = ap next_rank origin in
            omega (arith, up, is)

      not_between : InPrologue f p i ⊎ InBlock f p i → ⊥
      not_between (inl pro) = from_prologue pro
      not_between (inr a) = from_block a

  quiet_at : (p q r o : Pos) (i d j : Item) → fetched (framed_of f) p ≡ Here i → i.origin ≡ Before o → FallsTo (framed_of f) (below p) q →
      fetched (framed_of f) q ≡ Here d → FallsTo (framed_of f) q r → fetched (framed_of f) r ≡ Here j → is_code j.kind ≡ true → position_of j.origin ≡ o →
      AssignsNothing d.kind
  quiet_at p q r o i d j e origin down g on h code from = by_kind d.kind refl where
    -- d and j differ where d is a mark
    one_item : q ≡ r → d ≡ j
    one_item same = let both : Here d ≡ Here j = sym g ∙ ap (fetched (framed_of f)) same ∙ h in cc

    upper : ((q.block ≡ p.block) × (p.item + 1 ≤ q.item)) ⊎ (p.block < q.block)
    upper = falls_down source f resolve fresolve made framed down

    lower : ((r.block ≡ q.block) × (q.item ≤ r.item)) ⊎ (q.block < r.block)
    lower = falls_down source f resolve fresolve made framed on

    no_mark : (v : VarId) (m : MarkValue) → d.kind ≡ Mark v m → q ≡ r → ⊥
    no_mark v m kind same =
        let bad : false ≡ true = ap is_code (sym kind) ∙ ap (λ (z : Item). is_code z.kind) (one_item same) ∙ code in
        cc

    in_block : (b : InBlock f q d) → InBlock f r j
    in_block b = elim (point_of f r j h) as (λ _. InBlock f r j) [ inl pro ↦ absurd (by_lower pro lower) | inr c ↦ c ] where
      by_lower : InPrologue f r j → ((r.block ≡ q.block) × (q.item ≤ r.item)) ⊎ (q.block < r.block) → ⊥
      by_lower pro (inl (same, le)) = let x = pro.at in let y = b.at in omega (arith, x, y, same)
      by_lower pro (inr lt) = let x = pro.at in omega (arith, x, lt)

    kept_mark : (v : VarId) (m : MarkValue) → d.kind ≡ Mark v m → (b : InBlock f q d) (k : Pos) → d.origin ≡ Kept k → ⊥
    kept_mark v m kind b k kept = not_between p q r o i d j origin from k kept b (in_block b) apart upper lower (point_of f p i e) where
      apart : q.item ≡ r.item → b.index ≡ (in_block b).index → ⊥
      apart items indices =
          let x = b.at in
          let y = (in_block b).at in
          let blocks : q.block ≡ r.block = omega (arith, x, y, indices) in
          no_mark v m kind (λ t. record { block = blocks t; item = items t })

    -- a mark of the function, and where it comes from
    marked : (v : VarId) (m : MarkValue) → d.kind ≡ Mark v m → (b : InBlock f q d) → IsFramedItem f b.block.items q.item d → m ≡ Nothing
    marked v m kind b (gives_back n x at final is) = let bad : Code is.instruction None ≡ Mark v m = sym is.kind ∙ kind in cc
    marked v m kind b (own n x at made_of ix) = by_origin d.origin refl where
      fits : MarkFits x.kind x.origin
      fits = All-contains (λ (y : Item). MarkFits y.kind y.origin) b.block.items x
          (All-contains (λ (c : Block). Rattle.std.proofs.Common.All (λ (y : Item). MarkFits y.kind y.origin) c.items) f.blocks b.block made.shape.marks
          (got f.blocks b.index b.block (dropped f.blocks b.index b.block b.rest b.found)))
          (got b.block.items n x at)

      own_kind : (z : ItemKind) → x.kind ≡ z → Rattle.frame_rule.specs.Rule.renamed_kind f.slots z ≡ Mark v m → x.kind ≡ Mark v m
      own_kind (Code c l) q h = cc
      own_kind (Mark w y) q h = q ∙ h
      own_kind (Phi y l) q h = cc

      by_origin : (z : Origin) → d.origin ≡ z → m ≡ Nothing
      by_origin (Kept k) eo = absurd (kept_mark v m kind b k eo)
      by_origin (Before k) eo =
          let is : x.kind ≡ Mark v m = own_kind x.kind refl (ap (λ (z : Item). z.kind) (sym made_of) ∙ kind) in
          let of : x.origin ≡ Before k = ap (λ (z : Item). z.origin) (sym made_of) ∙ eo in
          added_mark v m k (subst (λ (z : Origin). MarkFits (Mark v m) z) of (subst (λ (z : ItemKind). MarkFits z x.origin) is fits))

    by_kind : (z : ItemKind) → d.kind ≡ z → AssignsNothing z
    by_kind (Code c n) q = tt
    by_kind (Phi y n) q = tt
    by_kind (Mark v m) kind = elim (point_of f q d g) as (λ _. m ≡ Nothing) [
      | inl pro ↦ (let bad : Code pro.is.instruction None ≡ Mark v m = sym pro.is.kind ∙ kind in cc)
      | inr b ↦ marked v m kind b (framed_item_is f b.block.items q.item d b.stands)
    ]

  pub comes_from : ComesFrom src (framed_of f)
  comes_from = record {
    added = added_at source f resolve fresolve made framed;
    returns = returns_at source f resolve fresolve made framed;
    apart = apart_at source f resolve fresolve made framed;
    kept = kept_at;
    quiet = quiet_at;
  }

pub framed_comes_from : FramedComesFrom
framed_comes_from source f resolve fresolve made framed = comes_from source f resolve fresolve made framed
