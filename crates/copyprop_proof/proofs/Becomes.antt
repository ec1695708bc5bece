-- What each item becomes, by its line in the ledger.
use Rattle.std.proofs.Common.{◌≡◌, ℕ, zero, suc, ◌+◌, ◌<◌, ◌≤◌, List, [], ◌∷◌, ◌++◌, All, Contains, Option, Some, None, Bool, true}
use Rattle.std.proofs.Common.{cond, ◌&&◌, count_by, eq-eqb, ne_eqb, slice_get, refl, sym, ap, ◌∙◌, subst, inl, arith}
use Rattle.std.proofs.lemmas.List.Sums.{sum_by-append}
use Rattle.std.proofs.lemmas.List.Elements.{All-contains}
use Rattle.rv64_instr.specs.declared.place.Place.{Place}
use Rattle.rv64_instr.specs.declared.place.Place.TheVariants.{Register, Slot, Const}
use Rattle.mir_func.specs.declared.debug_substitution.DebugSubstitution.{DebugSubstitution}
use Rattle.mir_func.specs.declared.position.Pos.{Pos}
use Rattle.mir_func.specs.declared.position.Origin.{Origin}
use Rattle.mir_func.specs.declared.position.Origin.TheVariants.{Kept, Before}
use Rattle.mir_func.specs.declared.block.Block.{Block}
use Rattle.mir_func.specs.declared.item.Item.{Item}
use Rattle.mir_func.specs.declared.variable.MarkValue.{MarkValue}
use Rattle.mir_func.specs.declared.variable.MarkValue.TheVariants.{Nothing, Constant, At, Pair}
use Rattle.mir_func.specs.Function.{Function}
use Rattle.mir_func.specs.Sound.{AreApart, ids_of, items_of, OriginIn, IsSound}
use Rattle.mir_func.specs.Positions.{position_of}
use Rattle.sem_mir.specs.Align.{is_code}
use Rattle.sem_mir.proofs.Reading.{apart_tail}
use Rattle.pass_trait.specs.Causes.{is_origin, IsRemoved}
use Rattle.pass_trait.specs.Change.{Change, change}
use Rattle.pass_trait.specs.Rule.{item}
use Rattle.pass_trait.specs.Debug.{RegisterStays, ValueStays, PlaceStays, IsKillAt, Becomes, mark_stays, phi_stays, code_stays, code_numbered}
use Rattle.pass_trait.specs.Debug.{code_unnumbered, code_goes, substituted, salvaged}
use Rattle.pass_trait.specs.Debug.{BecomeAll, over, next, BlocksBecome, none, stays as block_stays}
use Rattle.pass_trait.proofs.NopDebug.{of_get, same_position}
use Rattle.pass_salvage.specs.Salvage.{phi_for}
use Rattle.copyprop_block.specs.Copied.{at_block, BlocksSoFar, next_block}
use Rattle.copyprop_rule.specs.Rule.{salvaged_function, salvaged_entries}
use Rattle.copyprop_proof.specs.Ledger.{Line, over_lines, lines_in, ledger}
use Rattle.copyprop_proof.specs.Rule.{HasLine, copy_debug_rule}
use Rattle.copyprop_proof.proofs.Lines.{LineIs, mark, phi, code, numbered, out, out_entered, out_phi, LinesAre, no_lines, next_line, all_now}
use Rattle.copyprop_proof.proofs.Lines.{test, count_one, count_lines, fewer_lines}

-- the lines of all blocks
abbrev pub all_lines : BlocksSoFar → List Block → List (List Line)
all_lines a [] = []
all_lines a (b ∷ bs) = over_lines [] (at_block a.subs a.fresh) b.items ∷ all_lines (next_block a b) bs

-- what the blocks became
pub data BlocksAre (subs : List DebugSubstitution) : List Block → List (List Line) → List Block → Type 0 where
  no_blocks : BlocksAre subs [] [] []
  and_block : {b c : Block} {ls : List Line} {bs cs : List Block} {lss : List (List Line)} → c.id ≡ b.id → c.source_end ≡ b.source_end → c.items ≡ all_now ls →
      LinesAre subs b.items ls → BlocksAre subs bs lss cs → BlocksAre subs (b ∷ bs) (ls ∷ lss) (c ∷ cs)

pub ids_kept : (subs : List DebugSubstitution) (bs cs : List Block) (lss : List (List Line)) → BlocksAre subs bs lss cs → ids_of cs ≡ ids_of bs
ids_kept subs bs cs lss no_blocks = refl
ids_kept subs (b ∷ bs) (c ∷ cs) (ls ∷ lss) (and_block id source_end items lines rest) = let e = ids_kept subs bs cs lss rest in λ i. id i ∷ e i

-- ---- the ledger has the lines of each block

id_at : (bs : List Block) (j : ℕ) (b : Block) → slice_get bs j ≡ Some b → slice_get (ids_of bs) j ≡ Some b.id
id_at [] j b e = cc
id_at (x ∷ xs) zero b e = let same : x ≡ b = cc in ap (λ (z : Block). Some z.id) same
id_at (x ∷ xs) (suc j) b e = id_at xs j b e

pub lines_at : (bs : List Block) (a : BlocksSoFar) → AreApart (ids_of bs) → (j : ℕ) (b : Block) (ls : List Line) → slice_get bs j ≡ Some b →
    slice_get (all_lines a bs) j ≡ Some ls → lines_in a bs b.id ≡ ls
lines_at [] a apart j b ls at at' = cc
lines_at (x ∷ xs) a apart zero b ls at at' =
    let same : x ≡ b = cc in
    let is : over_lines [] (at_block a.subs a.fresh) x.items ≡ ls = cc in
    ap (λ (z : Bool). cond z (over_lines [] (at_block a.subs a.fresh) x.items) (lines_in (next_block a x) xs b.id))
    (eq-eqb x.id b.id (ap (λ (z : Block). z.id) same)) ∙ is
lines_at (x ∷ xs) a apart (suc j) b ls at at' =
    let far : x.id ≡ b.id → ⊥ = λ same. (let e : zero ≡ suc j = apart zero (suc j) b.id (ap Some same) (id_at xs j b at) in omega (arith, e)) in
    ap (λ (z : Bool). cond z (over_lines [] (at_block a.subs a.fresh) x.items) (lines_in (next_block a x) xs b.id)) (ne_eqb x.id b.id far) ∙
    lines_at xs (next_block a x) (apart_tail x.id (ids_of xs) apart) j b ls at at'

-- ---- how much code is left

module _ (o : Origin) where
  count_append : (xs ys : List Item) → count_by (test o) (xs ++ ys) ≡ count_by (test o) xs + count_by (test o) ys
  count_append xs ys = sum_by-append (λ (y : Item). cond (test o y) 1 0) xs ys

  count_blocks : (subs : List DebugSubstitution) (bs cs : List Block) (lss : List (List Line)) → BlocksAre subs bs lss cs →
      count_by (test o) (items_of cs) ≤ count_by (test o) (items_of bs)
  count_blocks subs bs cs lss no_blocks = omega arith
  count_blocks subs (b ∷ bs) (c ∷ cs) (ls ∷ lss) (and_block id source_end items lines rest) =
      let a = count_lines o subs b.items ls lines in
      let d = count_blocks subs bs cs lss rest in
      let e = count_append c.items (items_of cs) in
      let f = count_append b.items (items_of bs) in
      let g : count_by (test o) c.items ≡ count_by (test o) (all_now ls) = ap (count_by (test o)) items in
      omega (arith, a, d, e, f, g)

  pub fewer_blocks : (subs : List DebugSubstitution) (bs cs : List Block) (lss : List (List Line)) → BlocksAre subs bs lss cs →
      (j : ℕ) (b : Block) (ls : List Line) →
      slice_get bs j ≡ Some b → slice_get lss j ≡ Some ls → count_by (test o) (all_now ls) < count_by (test o) b.items →
      count_by (test o) (items_of cs) < count_by (test o) (items_of bs)
  fewer_blocks subs bs cs lss no_blocks j b ls at at' less = cc
  fewer_blocks subs (x ∷ bs) (c ∷ cs) (ms ∷ lss) (and_block id source_end items lines rest) zero b ls at at' less =
      let same : x ≡ b = cc in
      let is : ms ≡ ls = cc in
      let d = count_blocks subs bs cs lss rest in
      let e = count_append c.items (items_of cs) in
      let f = count_append x.items (items_of bs) in
      let g : count_by (test o) c.items ≡ count_by (test o) (all_now ls) = ap (count_by (test o)) (items ∙ ap all_now is) in
      let h : count_by (test o) x.items ≡ count_by (test o) b.items = ap (λ (z : Block). count_by (test o) z.items) same in
      omega (arith, less, d, e, f, g, h)
  fewer_blocks subs (x ∷ bs) (c ∷ cs) (ms ∷ lss) (and_block id source_end items lines rest) (suc j) b ls at at' less =
      let a = count_lines o subs x.items ms lines in
      let d = fewer_blocks subs bs cs lss rest j b ls at at' less in
      let e = count_append c.items (items_of cs) in
      let f = count_append x.items (items_of bs) in
      let g : count_by (test o) c.items ≡ count_by (test o) (all_now ms) = ap (count_by (test o)) items in
      omega (arith, a, d, e, f, g)

-- ---- positions and origins

same_origin : (o : Origin) → is_origin o o ≡ true
same_origin (Kept p) = same_position p
same_origin (Before p) = same_position p

-- ---- what becomes of an item

module _ (f : Function) (sound : IsSound f) (subs : List DebugSubstitution) where
  abbrev made : Change
  made = change f subs (salvaged_function f subs) (salvaged_entries f subs)

  abbrev B : (at : Pos) → Item → List Item → Type 0
  B = Becomes copy_debug_rule made

  register_stays : (r : ℕ) → RegisterStays copy_debug_rule made r
  register_stays r = (λ slot h. h, λ now h. h)

  value_stays : (m : MarkValue) → ValueStays copy_debug_rule made m
  value_stays Nothing = tt
  value_stays (Constant z) = tt
  value_stays (At r) = register_stays r
  value_stays (Pair q) = tt

  place_stays : (p : Option Place) → PlaceStays copy_debug_rule made p
  place_stays None = tt
  place_stays (Some (Register r)) = register_stays r
  place_stays (Some (Slot n)) = tt
  place_stays (Some (Const z)) = tt

  -- no number where the line has none
  no_number : (at : Pos) (l : Line) → HasLine made at l → l.gained ≡ None → (k : ℕ) → copy_debug_rule.numbers made at k → ⊥
  no_number at l has nothing k h =
      let w : Some l ≡ Some h.0 = sym has.stands ∙ h.1.stands in
      let same : l ≡ h.0 = cc in
      let bad : None ≡ Some k = sym nothing ∙ ap (λ (z : Line). z.gained) same ∙ h.2 in
      cc

  becomes : (at : Pos) (x : Item) (l : Line) → HasLine made at l → LineIs (salvaged_entries f subs) x l →
      (is_code x.kind ≡ true → count_by (test x.origin) l.now ≡ 0 → IsRemoved made x.origin) → B at x l.now
  becomes at x l has (mark {m = m}) gone = mark_stays (λ why h. h) (value_stays m)
  becomes at x l has (phi {p = p}) gone = phi_stays (λ why h. h) (place_stays p)
  becomes at x l has (code {n = None}) gone = code_unnumbered (no_number at l has refl)
  becomes at x l has (code {n = Some k}) gone = code_stays (λ why h. h)
  becomes at x l has numbered gone = code_numbered (l, has, refl)
  becomes at x l has out gone = code_goes (no_number at l has refl) (inl (gone refl refl).0)
  becomes at x l has (out_entered {k = k} copy e) gone = substituted k e.0 copy (gone refl refl) refl e.1 (λ why h. h)
  becomes at x l has (out_phi {k = k} {s = s} {o = o} copy) gone =
      salvaged copy (gone refl (no_phi o k s)) refl (l, s, has, refl, refl) (λ why h. h) where
        no_phi : (o : Origin) (k s : ℕ) → count_by (test o) (phi_for k s o ∷ []) ≡ 0
        no_phi o k s = count_one o (phi_for k s o)

  module _ (cs : List Block) (lss : List (List Line)) (all : BlocksAre (salvaged_entries f subs) f.blocks lss cs)
      (is_new : (salvaged_function f subs).blocks ≡ cs)
      (ledger_is : (j : ℕ) (b : Block) (ls : List Line) → slice_get f.blocks j ≡ Some b → slice_get lss j ≡ Some ls → ledger f subs b.id ≡ ls) where
    removed : (j n : ℕ) (b : Block) (ls : List Line) (x : Item) (l : Line) → slice_get f.blocks j ≡ Some b → slice_get lss j ≡ Some ls →
        LinesAre (salvaged_entries f subs) b.items ls → slice_get b.items n ≡ Some x → slice_get ls n ≡ Some l → is_code x.kind ≡ true →
        count_by (test x.origin) l.now ≡ 0 → IsRemoved made x.origin
    removed j n b ls x l at at' lines here here' is_coded nothing =
        let same = same_origin x.origin in
        let less = fewer_blocks x.origin (salvaged_entries f subs) f.blocks cs lss all j b ls at at'
        (fewer_lines x.origin (salvaged_entries f subs) b.items ls n x l lines here here' (λ i. is_coded i && same i) nothing) in
        let inside = All-contains (λ (i : Item). OriginIn b i.origin) b.items x
        (All-contains (λ (c : Block). All (λ (i : Item). OriginIn c i.origin) c.items) f.blocks b sound.origins (of_get f.blocks j b at))
        (of_get b.items n x here) in (
          subst (λ (bs : List Block). count_by (test x.origin) (items_of bs) < count_by (test x.origin) (items_of f.blocks)) (sym is_new) less,
          subst (λ (bs : List Block). Contains (ids_of bs) (position_of x.origin).block) (sym is_new)
              (subst (λ (ns : List ℕ). Contains ns (position_of x.origin).block) (sym (ids_kept (salvaged_entries f subs) f.blocks cs lss all))
              (subst (Contains (ids_of f.blocks)) (sym (home x.origin inside)) (of_get (ids_of f.blocks) j b.id (id_at f.blocks j b at)))),
        ) where
          home : (o : Origin) → OriginIn b o → (position_of o).block ≡ b.id
          home (Kept p) h = h.0
          home (Before p) h = h.0

    become_all : (j : ℕ) (b : Block) (ls : List Line) → slice_get f.blocks j ≡ Some b → slice_get lss j ≡ Some ls →
        LinesAre (salvaged_entries f subs) b.items ls → (n : ℕ) (xs : List Item) (ms : List Line) → LinesAre (salvaged_entries f subs) xs ms →
        ((k : ℕ) (x : Item) → slice_get xs k ≡ Some x → slice_get b.items (n + k) ≡ Some x) →
        ((k : ℕ) (l : Line) → slice_get ms k ≡ Some l → slice_get ls (n + k) ≡ Some l) → BecomeAll copy_debug_rule made b.id n xs (all_now ms)
    become_all j b ls at at' lines n xs ms no_lines here here' = over
    become_all j b ls at at' lines n (x ∷ xs) (l ∷ ms) (next_line h rest) here here' =
        next (becomes (record { block = b.id; item = n }) x l (record {
          stands = ap (λ (zs : List Line). slice_get zs n) (ledger_is j b ls at at') ∙
              line_here;
        }) h
        (λ c e. removed j n b ls x l at at' lines item_here line_here c e))
        (become_all j b ls at at' lines (suc n) xs ms rest (later (x ∷ xs) xs here) (later_line here')) where
          item_here : slice_get b.items n ≡ Some x
          item_here = let z : n + 0 ≡ n = omega arith in sym (ap (slice_get b.items) z) ∙ here 0 x refl

          line_here : slice_get ls n ≡ Some l
          line_here = let z : n + 0 ≡ n = omega arith in sym (ap (slice_get ls) z) ∙ here' 0 l refl

          later : (ys zs : List Item) → ((k : ℕ) (y : Item) → slice_get (x ∷ xs) k ≡ Some y → slice_get b.items (n + k) ≡ Some y) →
              (k : ℕ) (y : Item) → slice_get xs k ≡ Some y → slice_get b.items (suc n + k) ≡ Some y
          later ys zs at k y e = let z : n + suc k ≡ suc n + k = omega arith in sym (ap (slice_get b.items) z) ∙ at (suc k) y e

          later_line : ((k : ℕ) (m : Line) → slice_get (l ∷ ms) k ≡ Some m → slice_get ls (n + k) ≡ Some m) →
              (k : ℕ) (m : Line) → slice_get ms k ≡ Some m → slice_get ls (suc n + k) ≡ Some m
          later_line at k m e = let z : n + suc k ≡ suc n + k = omega arith in sym (ap (slice_get ls) z) ∙ at (suc k) m e

    none_killed : (b : ℕ) → All (IsKillAt copy_debug_rule made b) []
    none_killed b k d lt = absurd (omega (arith, lt))

    blocks_become : (n : ℕ) (bs ds : List Block) (mss : List (List Line)) → BlocksAre (salvaged_entries f subs) bs mss ds →
        ((j : ℕ) (b : Block) → slice_get bs j ≡ Some b → slice_get f.blocks (n + j) ≡ Some b) →
        ((j : ℕ) (ls : List Line) → slice_get mss j ≡ Some ls → slice_get lss (n + j) ≡ Some ls) → BlocksBecome copy_debug_rule made bs ds
    blocks_become n bs ds mss no_blocks here here' = none
    blocks_become n (b ∷ bs) (c ∷ ds) (ls ∷ mss) (and_block id source_end items lines rest) here here' =
        block_stays [] (all_now ls) id source_end items refl (none_killed b.id)
        (become_all n b ls at at' lines 0 b.items ls lines (λ k x e. (let z : k ≡ 0 + k = omega arith in sym (ap (slice_get b.items) z) ∙ e))
        (λ k l e. (let z : k ≡ 0 + k = omega arith in sym (ap (slice_get ls) z) ∙ e)))
        (blocks_become (suc n) bs ds mss rest (λ j d e. (let z : n + suc j ≡ suc n + j = omega arith in sym (ap (slice_get f.blocks) z) ∙ here (suc j) d e))
        (λ j ms e. (let z : n + suc j ≡ suc n + j = omega arith in sym (ap (slice_get lss) z) ∙ here' (suc j) ms e))) where
          at : slice_get f.blocks n ≡ Some b
          at = let z : n + 0 ≡ n = omega arith in sym (ap (slice_get f.blocks) z) ∙ here 0 b refl

          at' : slice_get lss n ≡ Some ls
          at' = let z : n + 0 ≡ n = omega arith in sym (ap (slice_get lss) z) ∙ here' 0 ls refl

    pub all_become : BlocksBecome copy_debug_rule made f.blocks (salvaged_function f subs).blocks
    all_become =
        subst (BlocksBecome copy_debug_rule made f.blocks) (sym is_new)
        (blocks_become 0 f.blocks cs lss all (λ j b e. (let z : j ≡ 0 + j = omega arith in sym (ap (slice_get f.blocks) z) ∙ e))
        (λ j ls e. (let z : j ≡ 0 + j = omega arith in sym (ap (slice_get lss) z) ∙ e)))
