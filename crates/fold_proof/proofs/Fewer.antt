-- How much code has an origin before and after folding.
use Rattle.std.proofs.Common.{◌≡◌, ℕ, zero, suc, ◌+◌, ◌<◌, ◌≤◌, List, [], ◌∷◌}
use Rattle.std.proofs.Common.{◌++◌, count_by, get_or, All, Contains, Some, Bool}
use Rattle.std.proofs.Common.{true, false, cond, ◌&&◌, nat_eq, refl, sym, ap, ◌∙◌, inl, inr, eqb-true, eq-eqb, arith}
use Rattle.std.proofs.lemmas.Bool.{and_parts}
use Rattle.std.proofs.lemmas.List.Elements.{All-head, All-tail}
use Rattle.std.proofs.lemmas.List.Sums.{sum_by-cons, sum_by-append}
use Rattle.mir_func.specs.declared.block.Block.{Block}
use Rattle.mir_func.specs.declared.debug_substitution.DebugSubstitution.{DebugSubstitution}
use Rattle.mir_func.specs.declared.item.Item.{Item}
use Rattle.mir_func.specs.declared.item.ItemKind.{ItemKind}
use Rattle.mir_func.specs.declared.item.ItemKind.TheVariants.{Code, Mark, Phi}
use Rattle.mir_func.specs.declared.position.Pos.{Pos}
use Rattle.mir_func.specs.declared.position.Origin.{Origin}
use Rattle.mir_func.specs.declared.position.Origin.TheVariants.{Kept, Before}
use Rattle.mir_func.specs.Function.{Function}
use Rattle.mir_func.specs.Graph.{from_block}
use Rattle.mir_func.specs.Sound.{AreApart, ids_of, items_of, OriginIn, IsSound}
use Rattle.mir_func.specs.Positions.{position_of, is_same_position}
use Rattle.sem_mir.specs.Align.{is_code}
use Rattle.pass_trait.specs.Causes.{is_origin, IsFewer, IsMore}
use Rattle.fold_targets.specs.Leads.{first_id}
use Rattle.fold_targets.proofs.Ways.{test_of}
use Rattle.fold_targets.proofs.Blocks.{apart_tail}
use Rattle.fold_rule.specs.Rule.{folded_block, staying}
use Rattle.fold_rule_proof.specs.Kills.{kills, IsFoldedWithKills}
use Rattle.fold_rule_proof.proofs.Kills.{IsKillKind, IsKill, each_kill}
use Rattle.fold_rule_proof.proofs.KillSound.{sound_killed}
use Rattle.fold_proof.proofs.Placed.{place_of, made_block, made, made_at, made_gone}
use Rattle.fold_proof.proofs.Passing.{old, end, stays, was, c, new_is}

-- ---- counts

abbrev pub weight : Bool → ℕ
weight z = cond z 1 0

pub count_first : (p : Item → Bool) (x : Item) (xs : List Item) → count_by p (x ∷ xs) ≡ weight (p x) + count_by p xs
count_first p x xs = sum_by-cons (λ (y : Item). weight (p y)) x xs

pub count_both : (p : Item → Bool) (xs ys : List Item) → count_by p (xs ++ ys) ≡ count_by p xs + count_by p ys
count_both p xs ys = sum_by-append (λ (y : Item). weight (p y)) xs ys

pub count_none : (p : Item → Bool) (xs : List Item) → All (λ (i : Item). p i ≡ false) xs → count_by p xs ≡ 0
count_none p [] h = refl
count_none p (x ∷ xs) h =
    let e = count_first p x xs in
    let one : weight (p x) ≡ 0 = ap weight (All-head (λ (i : Item). p i ≡ false) x xs h) in
    let more = count_none p xs (All-tail (λ (i : Item). p i ≡ false) x xs h) in
    omega (arith, e, one, more)

pub count_some : (p : Item → Bool) (xs : List Item) (x : Item) → Contains xs x → p x ≡ true → 0 < count_by p xs
count_some p [] x (k, lt, e) passes = absurd (omega (arith, lt))
count_some p (y ∷ ys) x (zero, lt, e) passes =
    let k = count_first p y ys in
    let one : weight (p y) ≡ 1 = ap weight (ap p e ∙ passes) in
    omega (arith, k, one)
count_some p (y ∷ ys) x (suc n, lt, e) passes =
    let k = count_first p y ys in
    let more = count_some p ys x (n, omega (arith, lt), e) passes in
    omega (arith, k, more)

-- ---- origins

same_position : (p : Pos) → is_same_position p p ≡ true
same_position p = let a = eq-eqb p.block p.block refl in let b = eq-eqb p.item p.item refl in λ i. a i && b i

pub same_origin : (o : Origin) → is_origin o o ≡ true
same_origin (Kept p) = same_position p
same_origin (Before p) = same_position p

origin_block : (o u : Origin) → is_origin o u ≡ true → (position_of o).block ≡ (position_of u).block
origin_block (Kept p) (Kept q) e = eqb-true p.block q.block (and_parts (nat_eq p.block q.block) (nat_eq p.item q.item) e).0
origin_block (Before p) (Before q) e = eqb-true p.block q.block (and_parts (nat_eq p.block q.block) (nat_eq p.item q.item) e).0
origin_block (Kept p) (Before q) e = cc
origin_block (Before p) (Kept q) e = cc

pub home_of : (b : Block) (o : Origin) → OriginIn b o → (position_of o).block ≡ b.id
home_of b (Kept p) h = h.0
home_of b (Before p) h = h.0

abbrev pub Passes : (ItemKind → Bool) → Origin → Item → Bool
Passes test o i = test i.kind && is_origin i.origin o

abbrev pub OfCode : (ItemKind → Bool) → Type 0
OfCode test = (k : ItemKind) → is_code k ≡ false → test k ≡ false

module _ (test : ItemKind → Bool) (o : Origin) where
  abbrev p : Item → Bool
  p = Passes test o

  both_false : (a b : Bool) → (b ≡ true → ⊥) → (a && b) ≡ false
  both_false true true h = absurd (h refl)
  both_false true false h = refl
  both_false false b h = refl

  -- another block has no such item
  elsewhere : (b : Block) → (b.id ≡ (position_of o).block → ⊥) → All (λ (i : Item). OriginIn b i.origin) b.items → count_by p b.items ≡ 0
  elsewhere b far homes = count_none p b.items (λ k d lt. both_false (test _) (is_origin _ o) (λ same.
      far (sym (home_of b _ (homes k d lt)) ∙ origin_block _ o same)))

  none_there : (bs : List Block) → from_block bs (position_of o).block ≡ [] → All (λ (b : Block). All (λ (i : Item). OriginIn b i.origin) b.items) bs →
      count_by p (items_of bs) ≡ 0
  none_there [] e homes = refl
  none_there (b ∷ bs) e homes = elim (test_of b.id (position_of o).block (nat_eq b.id (position_of o).block) refl) as (λ z. count_by p (items_of
      (b ∷ bs)) ≡ 0) [
        | inl w ↦ (let bad : b ∷ bs ≡ [] = sym (ap (λ (z : Bool). cond z (b ∷ bs) (from_block bs (position_of o).block)) w.0) ∙ e in cc)
        | inr w ↦ (let one = elsewhere b w.1 (All-head (λ (b : Block). All (λ (i : Item). OriginIn b i.origin) b.items) b bs homes) in
            let more = none_there bs (sym (ap (λ (z : Bool). cond z (b ∷ bs) (from_block bs (position_of o).block)) w.0) ∙ e)
            (All-tail (λ (b : Block). All (λ (i : Item). OriginIn b i.origin) b.items) b bs homes) in
            let k = count_both p b.items (items_of bs) in
            omega (arith, one, more, k))
      ]

  none_later : (b : Block) (bs : List Block) (n : ℕ) → AreApart (ids_of (b ∷ bs)) → b.id ≡ n → from_block bs n ≡ []
  none_later b bs n apart same = by_blocks (from_block bs n) refl where
    by_blocks : (cs : List Block) → from_block bs n ≡ cs → from_block bs n ≡ []
    by_blocks [] e = e
    by_blocks (d ∷ ds) e =
        let k = place_of bs n d ds e in
        let bad : 0 ≡ suc k.0 = apart 0 (suc k.0) n (ap (λ (z : ℕ). Some z) same) k.1 in
        absurd (omega (arith, bad))

  -- all such items stand in one block
  one_there : (bs : List Block) (d : Block) (ds : List Block) → from_block bs (position_of o).block ≡ d ∷ ds → AreApart (ids_of bs) →
      All (λ (b : Block). All (λ (i : Item). OriginIn b i.origin) b.items) bs → count_by p (items_of bs) ≡ count_by p d.items
  one_there [] d ds e apart homes = cc
  one_there (b ∷ bs) d ds e apart homes =
      elim (test_of b.id (position_of o).block (nat_eq b.id (position_of o).block) refl) as (λ z. count_by p (items_of (b ∷ bs)) ≡ count_by p d.items) [
        | inl w ↦ (let here : b ∷ bs ≡ d ∷ ds = sym (ap (λ (z : Bool). cond z (b ∷ bs) (from_block bs (position_of o).block)) w.0) ∙ e in
            let same : b ≡ d = cc in
            let more = none_there bs (none_later b bs (position_of o).block apart w.1)
            (All-tail (λ (b : Block). All (λ (i : Item). OriginIn b i.origin) b.items) b bs homes) in
            let k = count_both p b.items (items_of bs) in
            let s : count_by p b.items ≡ count_by p d.items = ap (λ (z : Block). count_by p z.items) same in
            omega (arith, more, k, s))
        | inr w ↦ (let one = elsewhere b w.1 (All-head (λ (b : Block). All (λ (i : Item). OriginIn b i.origin) b.items) b bs homes) in
            let more = one_there bs d ds (sym (ap (λ (z : Bool). cond z (b ∷ bs) (from_block bs (position_of o).block)) w.0) ∙ e)
            (apart_tail b.id (ids_of bs) apart) (All-tail (λ (b : Block). All (λ (i : Item). OriginIn b i.origin) b.items) b bs homes) in
            let k = count_both p b.items (items_of bs) in
            omega (arith, one, more, k))
      ]

  among_all : (bs : List Block) (b : Block) → Contains bs b → count_by p b.items ≤ count_by p (items_of bs)
  among_all [] b (n, lt, e) = absurd (omega (arith, lt))
  among_all (d ∷ ds) b (zero, lt, e) =
      let k = count_both p d.items (items_of ds) in
      let s : count_by p d.items ≡ count_by p b.items = ap (λ (z : Block). count_by p z.items) e in
      omega (arith, k, s)
  among_all (d ∷ ds) b (suc n, lt, e) =
      let k = count_both p d.items (items_of ds) in
      let more = among_all ds b (n, omega (arith, lt), e) in
      omega (arith, k, more)

  kill_kind : (k : ItemKind) → IsKillKind k → is_code k ≡ false
  kill_kind (Mark v m) h = refl
  kill_kind (Phi r n) h = refl
  kill_kind (Code i n) h = absurd h

  -- kills are no code
  kills_none : OfCode test → (e : ℕ) (ks : List Item) → All (IsKill e) ks → count_by p ks ≡ 0
  kills_none code e ks h = count_none p ks (λ k d lt.
      ap (λ (z : Bool). z && is_origin (get_or ks k d).origin o) (code (get_or ks k d).kind (kill_kind (get_or ks k d).kind (h k d lt).kind)))

  module _ (f g : Function) (subs : List DebugSubstitution) (sound : IsSound f) (h : IsFoldedWithKills f g) (code : OfCode test) where
    abbrev all_old : List Block
    all_old = old f g subs sound h

    abbrev homes : All (λ (b : Block). All (λ (i : Item). OriginIn b i.origin) b.items) g.blocks
    homes = (sound_killed f g sound h).origins

    -- how much such code there is now, where its block stays
    left_in : (b : Block) (rest : List Block) → from_block f.blocks b.id ≡ b ∷ rest → h.folded.stays b.id ≡ true → (position_of o).block ≡ b.id →
        count_by p (items_of g.blocks) ≡
        count_by p (folded_block h.folded.end (first_id (staying h.folded.stays rest)) (first_id rest) b).items
    left_in b rest at s home =
        let bare = folded_block h.folded.end (first_id (staying h.folded.stays rest)) (first_id rest) b in
        let made_b = made_block h.folded.end h.folded.stays h.was f.blocks b rest in
        let more = made h.folded.end h.folded.stays h.was f.blocks rest in
        let there : from_block g.blocks (position_of o).block ≡ made_b ∷ more =
        (λ i. from_block (new_is f g subs sound h i) (home i)) ∙ made_at h.folded.end h.folded.stays h.was f.blocks f.blocks b.id b rest at s in
        let ks = kills h.folded.end h.was f.blocks b.id in
        let total : count_by p (items_of g.blocks) ≡ count_by p (ks ++ bare.items) =
        one_there g.blocks made_b more there (sound_killed f g sound h).blocks_apart homes in
        let parts = count_both p ks bare.items in
        let none = kills_none code b.id ks (each_kill h.folded.end h.was f.blocks b.id) in
        omega (arith, total, parts, none)

    -- less code of a block that stays
    pub fewer_staying : (b : Block) (rest : List Block) → from_block f.blocks b.id ≡ b ∷ rest → Contains f.blocks b → h.folded.stays b.id ≡ true →
        (position_of o).block ≡ b.id →
        count_by p (folded_block h.folded.end (first_id (staying h.folded.stays rest)) (first_id rest) b).items < count_by p b.items →
        IsFewer (c f g subs sound h) test o
    fewer_staying b rest at member s home less =
        let left = left_in b rest at s home in
        let below_all = among_all f.blocks b member in
        let fewer : count_by p (items_of g.blocks) < count_by p (items_of f.blocks) = omega (arith, less, left, below_all) in
        fewer

    -- more code of one
    pub more_staying : (b : Block) (rest : List Block) → from_block f.blocks b.id ≡ b ∷ rest → h.folded.stays b.id ≡ true →
        (position_of o).block ≡ b.id →
        count_by p b.items < count_by p (folded_block h.folded.end (first_id (staying h.folded.stays rest)) (first_id rest) b).items →
        IsMore (c f g subs sound h) test o
    more_staying b rest at s home grown =
        let left = left_in b rest at s home in
        let all = one_there f.blocks b rest (ap (from_block f.blocks) home ∙ at) sound.blocks_apart sound.origins in
        let more : count_by p (items_of f.blocks) < count_by p (items_of g.blocks) = omega (arith, grown, left, all) in
        more

    -- code of a block that is gone
    pub fewer_gone : (b : Block) (x : Item) → Contains f.blocks b → Contains b.items x → h.folded.stays b.id ≡ false → (position_of o).block ≡ b.id →
        p x ≡ true → IsFewer (c f g subs sound h) test o
    fewer_gone b x member inside s home passes =
        let there : from_block g.blocks (position_of o).block ≡ [] =
        (λ i. from_block (new_is f g subs sound h i) (home i)) ∙ made_gone h.folded.end h.folded.stays h.was f.blocks f.blocks b.id s in
        let total = none_there g.blocks there homes in
        let some = count_some p b.items x inside passes in
        let below_all = among_all f.blocks b member in
        let fewer : count_by p (items_of g.blocks) < count_by p (items_of f.blocks) = omega (arith, total, some, below_all) in
        fewer
