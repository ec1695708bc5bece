-- A folded function with its kills is sound.
use Rattle.std.proofs.Common.{◌≡◌, ◌⊎◌, ℕ, zero, suc, ◌≤◌, List, [], ◌∷◌, ◌++◌, map, length, slice_get, All, Contains, Option, Some, None, Bool}
use Rattle.std.proofs.Common.{refl, sym, ap}
use Rattle.std.proofs.Common.{◌∙◌, subst, inl, inr, arith}
use Rattle.std.proofs.lemmas.List.{length-map}
use Rattle.std.proofs.lemmas.List.Elements.{All-head, All-tail, All-append, All-weaker, All-map, Contains-append_left}
use Rattle.std.proofs.lemmas.List.Elements.{Contains-append_right}
use Rattle.std.proofs.lemmas.Option.{slice_get-get_or, slice_get_within, get_or_from_slice_get}
use Rattle.mir_func.specs.declared.block.Block.{Block}
use Rattle.mir_func.specs.declared.exit.Exit.{Exit}
use Rattle.mir_func.specs.declared.exit.Exit.TheVariants.{Onward}
use Rattle.mir_func.specs.declared.item.Item.{Item}
use Rattle.mir_func.specs.declared.item.ItemKind.{ItemKind}
use Rattle.mir_func.specs.declared.item.ItemKind.TheVariants.{Code, Mark, Phi}
use Rattle.mir_func.specs.declared.location.Loc.{Loc}
use Rattle.mir_func.specs.declared.position.Origin.{Origin}
use Rattle.mir_func.specs.declared.position.Origin.TheVariants.{Kept, Before}
use Rattle.mir_func.specs.Exits.{exit_of}
use Rattle.mir_func.specs.Function.{Function}
use Rattle.mir_func.specs.Sound.{ids_of, items_of, TargetsIn, SlotsIn, ObjectsIn, LeavesPointer, OriginIn, MayFollow, EndsWell, Closes, LastCloses, IsSound}
use Rattle.mir_func.specs.Sound.{number_of, code_number, NumbersOnce, AreApart, KindPassesFirst}
use Rattle.fold_rule.specs.Rule.{folded_blocks}
use Rattle.fold_rule_proof.proofs.Numbers.{comes_at, folded_comes}
use Rattle.fold_rule_proof.proofs.Sound.{sound_folded}
use Rattle.fold_rule_proof.specs.Kills.{kill_by, kills, with_kills, IsFoldedWithKills}
use Rattle.fold_rule_proof.proofs.Kills.{IsKillKind, IsKill, ComesFrom, each_from, each_kill}

-- ---- numbers stay apart where items are put that give numbers of no code

pub data Put (all : List Item) : (new old : List Item) → Type 0 where
  none : Put all [] []
  stays : {x : Item} {xs ys : List Item} → Put all ys xs → Put all (x ∷ ys) (x ∷ xs)
  put : {z : Item} {xs ys : List Item} → code_number z.kind ≡ None →
      ((k : ℕ) → number_of z.kind ≡ Some k → (w : Item) → Contains all w → code_number w.kind ≡ Some k → ⊥) → Put all ys xs → Put all (z ∷ ys) xs

pub contains_at : (xs : List Item) (i : ℕ) (x : Item) → slice_get xs i ≡ Some x → Contains xs x
contains_at xs i x e = (i, slice_get_within xs i x e, get_or_from_slice_get xs i x x e)

pub at_of : (xs : List Item) (x : Item) → Contains xs x → (i : ℕ) × (slice_get xs i ≡ Some x)
at_of xs x h = (h.0, slice_get-get_or xs h.0 x h.1 ∙ ap (λ (z : Item). Some z) h.2)

module _ (all : List Item) where
  code_at : {new old : List Item} → Put all new old → (i : ℕ) (x : Item) (k : ℕ) → slice_get new i ≡ Some x → code_number x.kind ≡ Some k →
      (j : ℕ) × (slice_get old j ≡ Some x)
  code_at none i x k at c = cc
  code_at (stays rest) zero x k at c = (0, at)
  code_at (stays rest) (suc i) x k at c = let w = code_at rest i x k at c in (suc w.0, w.1)
  code_at (put {z} none_of far rest) zero x k at c =
      let same : z ≡ x = cc in let bad : None ≡ Some k = sym none_of ∙ ap (λ (v : Item). code_number v.kind) same ∙ c in cc
  code_at (put none_of far rest) (suc i) x k at c = code_at rest i x k at c

  number_at : {new old : List Item} → Put all new old → (i : ℕ) (x : Item) (k : ℕ) → slice_get new i ≡ Some x → number_of x.kind ≡ Some k →
      ((j : ℕ) × (slice_get old j ≡ Some x)) ⊎ ((w : Item) → Contains all w → code_number w.kind ≡ Some k → ⊥)
  number_at none i x k at c = cc
  number_at (stays rest) zero x k at c = inl (0, at)
  number_at (stays {x = y} {xs} rest) (suc i) x k at c =
      elim (number_at rest i x k at c) as (λ z. ((j : ℕ) × (slice_get (y ∷ xs) j ≡ Some x)) ⊎ ((w : Item) → Contains all w → code_number w.kind ≡ Some k → ⊥)) [
        | inl w ↦ inl (suc w.0, w.1)
        | inr far ↦ inr far
      ]
  number_at (put {z} none_of far rest) zero x k at c =
      let same : z ≡ x = cc in inr (far k (ap (λ (v : Item). number_of v.kind) same ∙ c))
  number_at (put none_of far rest) (suc i) x k at c = number_at rest i x k at c

  once_tail : (x : Item) (xs : List Item) → NumbersOnce (x ∷ xs) → NumbersOnce xs
  once_tail x xs h i j y z k at c at' n = let e : suc i ≡ suc j = h (suc i) (suc j) y z k at c at' n in omega (arith, e)

  code_numbered : (kind : ItemKind) (k : ℕ) → code_number kind ≡ Some k → number_of kind ≡ Some k
  code_numbered (Code i n) k e = e
  code_numbered (Mark v m) k e = cc
  code_numbered (Phi p n) k e = cc

  Within : List Item → Type 0
  Within xs = (w : Item) → Contains xs w → Contains all w

  within_tail : (x : Item) (xs : List Item) → ((w : Item) → Contains (x ∷ xs) w → Contains all w) → (w : Item) → Contains xs w → Contains all w
  within_tail x xs h w c = h w (suc c.0, (let l = c.1 in omega (arith, l)), c.2)

  once_put : {new old : List Item} → Put all new old → ((w : Item) → Contains old w → Contains all w) → NumbersOnce old → NumbersOnce new
  once_put none sub h i j x y k at c at' n = cc
  once_put (put {z} none_of far rest) sub h zero j x y k at c at' n =
      let same : z ≡ x = cc in let bad : None ≡ Some k = sym none_of ∙ ap (λ (v : Item). code_number v.kind) same ∙ c in cc
  once_put (put {z} {xs} none_of far rest) sub h (suc i) zero x y k at c at' n =
      let same : z ≡ y = cc in
      let w = code_at rest i x k at c in
      absurd (far k (ap (λ (v : Item). number_of v.kind) same ∙ n) x (sub x (contains_at xs w.0 x w.1)) c)
  once_put (put none_of far rest) sub h (suc i) (suc j) x y k at c at' n = ap suc (once_put rest sub h i j x y k at c at' n)
  once_put (stays rest) sub h zero zero x y k at c at' n = refl
  once_put (stays {x = z} {xs} {ys} rest) sub h zero (suc j) x y k at c at' n =
      let same : z ≡ x = cc in
      elim (number_at rest j y k at' n) as (λ q. zero ≡ suc j) [
        | inl w ↦ (let bad : 0 ≡ suc w.0 = h 0 (suc w.0) x y k (ap (λ (v : Item). Some v) same) c w.1 n in absurd (omega (arith, bad)))
        | inr far ↦ absurd (far x (sub x (0, omega arith, same)) c)
      ]
  once_put (stays {x = z} {xs} {ys} rest) sub h (suc i) zero x y k at c at' n =
      let same : z ≡ y = cc in
      let w = code_at rest i x k at c in
      let bad : suc w.0 ≡ 0 = h (suc w.0) 0 x y k w.1 c (ap (λ (v : Item). Some v) same) n in
      absurd (omega (arith, bad))
  once_put (stays {x = z} {xs} {ys} rest) sub h (suc i) (suc j) x y k at c at' n =
      ap suc (once_put rest (within_tail z xs sub) (once_tail z xs h) i j x y k at c at' n)

  put_itself : (xs : List Item) → Put all xs xs
  put_itself [] = none
  put_itself (x ∷ xs) = stays (put_itself xs)

  put_append : {a b c d : List Item} → Put all a b → Put all c d → Put all (a ++ c) (b ++ d)
  put_append none h = h
  put_append (stays rest) h = stays (put_append rest h)
  put_append (put none_of far rest) h = put none_of far (put_append rest h)

-- ---- membership

pub in_items : (bs : List Block) (b : Block) (x : Item) → Contains bs b → Contains b.items x → Contains (items_of bs) x
in_items [] b x (k, lt, e) h = absurd (omega (arith, lt))
in_items (c ∷ cs) b x (zero, lt, e) h = Contains-append_left c.items (items_of cs) x (subst (λ (z : Block). Contains z.items x) (sym e) h)
in_items (c ∷ cs) b x (suc k, lt, e) h = Contains-append_right c.items (items_of cs) x (in_items cs b x (k, omega (arith, lt), e) h)

-- ---- kills ask for nothing, and control goes on past them

kill_exit : (k : ItemKind) → IsKillKind k → exit_of k ≡ Onward
kill_exit (Mark v m) h = refl
kill_exit (Phi p n) h = refl
kill_exit (Code i n) h = absurd h

kill_code : (k : ItemKind) → IsKillKind k → code_number k ≡ None
kill_code (Mark v m) h = refl
kill_code (Phi p n) h = refl
kill_code (Code i n) h = absurd h

kill_targets : (ids : List ℕ) (k : ItemKind) → IsKillKind k → TargetsIn ids k
kill_targets ids (Mark v m) h = tt
kill_targets ids (Phi p n) h = tt
kill_targets ids (Code i n) h = absurd h

kill_slots : (ids : List ℕ) (k : ItemKind) → IsKillKind k → SlotsIn ids k
kill_slots ids (Mark v m) h = tt
kill_slots ids (Phi None n) h = tt
kill_slots ids (Phi (Some p) n) h = absurd h
kill_slots ids (Code i n) h = absurd h

kill_passed : (ids : List ℕ) (k : ItemKind) → IsKillKind k → KindPassesFirst ids k
kill_passed ids (Mark v m) h = tt
kill_passed ids (Phi p n) h = tt
kill_passed ids (Code i n) h = absurd h

kill_pointer : (k : ItemKind) → IsKillKind k → LeavesPointer k
kill_pointer (Mark v m) h = tt
kill_pointer (Phi p n) h = tt
kill_pointer (Code i n) h = absurd h

closes_cons : (x : Item) (xs : List Item) → Closes xs → Closes (x ∷ xs)
closes_cons x [] h = absurd h
closes_cons x (y ∷ ys) h = h

module _ (e : ℕ) where
  pub ends_put : (ks xs : List Item) → All (IsKill e) ks → EndsWell xs → EndsWell (ks ++ xs)
  ends_put [] xs h w = w
  ends_put (k ∷ ks) xs h w = (
    subst (λ (x : Exit). MayFollow x (ks ++ xs)) (sym (kill_exit k.kind (All-head (IsKill e) k ks h).kind)) tt,
    ends_put ks xs (All-tail (IsKill e) k ks h) w,
  )

  closes_put : (ks xs : List Item) → Closes xs → Closes (ks ++ xs)
  closes_put [] xs h = h
  closes_put (k ∷ ks) xs h = closes_cons k (ks ++ xs) (closes_put ks xs h)

module _ (end : ℕ → ℕ) (was : ℕ → Bool) (old : List Block) where
  abbrev put_in : Block → Block
  put_in = with_kills end was old

  ids_put : (bs : List Block) → ids_of (map put_in bs) ≡ ids_of bs
  ids_put [] = refl
  ids_put (b ∷ bs) = ap (λ (ns : List ℕ). b.id ∷ ns) (ids_put bs)

  -- what holds of items in a block, and of kills there
  pub each_put : (P Q : Block → Item → Type 0) → ((b : Block) (i : Item) → P b i → Q (put_in b) i) →
      ((b : Block) (i : Item) → IsKill b.id i → Q (put_in b) i) → (bs : List Block) → All (λ (b : Block). All (P b) b.items) bs →
      All (λ (b : Block). All (Q b) b.items) (map put_in bs)
  each_put P Q f g bs h =
      All-map (λ (b : Block). All (Q b) b.items) put_in bs
      (All-weaker (λ (b : Block). All (P b) b.items) (λ (b : Block). All (Q (put_in b)) (kills end was old b.id ++ b.items))
      (λ b k. All-append (Q (put_in b)) (kills end was old b.id) b.items
      (All-weaker (IsKill b.id) (Q (put_in b)) (g b) (kills end was old b.id) (each_kill end was old b.id))
      (All-weaker (P b) (Q (put_in b)) (f b) b.items k)) bs h)

  ends_all : (bs : List Block) → All (λ (b : Block). EndsWell b.items) bs → All (λ (b : Block). EndsWell b.items) (map put_in bs)
  ends_all bs h = All-map (λ (b : Block). EndsWell b.items) put_in bs
      (All-weaker (λ (b : Block). EndsWell b.items) (λ (b : Block). EndsWell (kills end was old b.id ++ b.items))
      (λ b k. ends_put b.id (kills end was old b.id) b.items (each_kill end was old b.id) k) bs h)

  last_put : (bs : List Block) → LastCloses bs → LastCloses (map put_in bs)
  last_put [] h = h
  last_put (b ∷ []) h = closes_put b.id (kills end was old b.id) b.items h
  last_put (b ∷ c ∷ cs) h = last_put (c ∷ cs) h

  -- what a kill gives no code gives
  abbrev Far : List Item → Item → Type 0
  Far all z = (k : ℕ) → number_of z.kind ≡ Some k → (w : Item) → Contains all w → code_number w.kind ≡ Some k → ⊥

  put_kills : (all : List Item) (e : ℕ) (ks xs : List Item) → All (IsKill e) ks → All (Far all) ks → Put all (ks ++ xs) xs
  put_kills all e [] xs h far = put_itself all xs
  put_kills all e (k ∷ ks) xs h far =
      put (kill_code k.kind (All-head (IsKill e) k ks h).kind) (All-head (Far all) k ks far)
      (put_kills all e ks xs (All-tail (IsKill e) k ks h) (All-tail (Far all) k ks far))

  put_blocks : (all : List Item) → ((e : ℕ) → All (Far all) (kills end was old e)) → (bs : List Block) → Put all (items_of (map put_in bs)) (items_of bs)
  put_blocks all far [] = none
  put_blocks all far (b ∷ bs) =
      put_append all (put_kills all b.id (kills end was old b.id) b.items (each_kill end was old b.id) (far b.id)) (put_blocks all far bs)

-- the number of a kill was that of a phi
number_was : (e : ℕ) (kind : ItemKind) (l : Loc) (i : Item) (k : ℕ) → kill_by e kind l ≡ Some i → number_of i.kind ≡ Some k →
    (number_of kind ≡ Some k) × (code_number kind ≡ None)
number_was e (Mark v m) l i k h n = absurd (by_same _ h refl) where
  by_same : (j : Item) → Some j ≡ Some i → number_of j.kind ≡ None → ⊥
  by_same j q none_of =
      let same : j ≡ i = cc in
      let bad : None ≡ Some k = sym none_of ∙ ap (λ (v : Item). number_of v.kind) same ∙ n in
      cc
number_was e (Phi p m) l i k h n = (by_same _ h refl, refl) where
  by_same : (j : Item) → Some j ≡ Some i → number_of j.kind ≡ Some m → ◌≡◌ {A = Option ℕ} (Some m) (Some k)
  by_same j q one =
      let same : j ≡ i = cc in
      sym one ∙ ap (λ (v : Item). number_of v.kind) same ∙ n
number_was e (Code c m) l i k h n = cc

module _ (f g : Function) (sound : IsSound f) (h : IsFoldedWithKills f g) where
  abbrev end : ℕ → ℕ
  end = h.folded.end

  abbrev bare : Function
  bare = record f { blocks = h.blocks }

  bare_sound : IsSound bare
  bare_sound = sound_folded f sound h.blocks h.folded

  far : (e : ℕ) → All (Far end h.was f.blocks (items_of h.blocks)) (kills end h.was f.blocks e)
  far e = All-weaker (ComesFrom end h.was f.blocks e) (Far end h.was f.blocks (items_of h.blocks))
      (λ z from k number w member code. clash z from k number w member code) (kills end h.was f.blocks e) (each_from end h.was f.blocks e) where
        clash : (z : Item) → ComesFrom end h.was f.blocks e z → (k : ℕ) → number_of z.kind ≡ Some k → (w : Item) → Contains (items_of h.blocks) w →
            code_number w.kind ≡ Some k → ⊥
        clash z from k number w member code =
            let x = from.item in
            let phi = number_was e x.kind x.loc z k from.kill number in
            let there = at_of (items_of f.blocks) x (in_items f.blocks from.block x from.member from.stood) in
            let at = at_of (items_of h.blocks) w member in
            let at' : slice_get (items_of (folded_blocks end h.folded.stays f.blocks)) at.0 ≡ Some w =
            subst (λ (bs : List Block). slice_get (items_of bs) at.0 ≡ Some w) h.folded.blocks at.1 in
            let c = comes_at (folded_comes end h.folded.stays f.blocks) at.0 w k at' (code_numbered (items_of h.blocks) w.kind k code) in
            let same_at : c.0 ≡ there.0 = sound.numbers c.0 there.0 c.1 x k c.2 (c.4 ∙ code) there.1 phi.0 in
            let same : Some c.1 ≡ Some x = sym c.2 ∙ ap (slice_get (items_of f.blocks)) same_at ∙ there.1 in
            let same_item : c.1 ≡ x = cc in
            let bad : None ≡ Some k = sym phi.1 ∙ ap (λ (v : Item). code_number v.kind) (sym same_item) ∙ c.4 ∙ code in
            cc

  abbrev put_all : Block → Block
  put_all = with_kills end h.was f.blocks

  sound_put : IsSound (record f { blocks = map put_all h.blocks })
  sound_put = record {
    blocks_apart = subst AreApart (sym (ids_put end h.was f.blocks h.blocks)) bare_sound.blocks_apart;
    slots_apart = sound.slots_apart;
    objects_apart = sound.objects_apart;
    few_blocks = subst (λ (n : ℕ). n ≤ Rattle.mir_func.specs.Limits.MAX_BLOCKS) (sym (length-map h.blocks put_all)) bare_sound.few_blocks;
    few_slots = sound.few_slots;
    each_object = sound.each_object;
    objects_laid = sound.objects_laid;
    targets = each_put end h.was f.blocks (λ b i. TargetsIn (ids_of h.blocks) i.kind) (λ b i. TargetsIn (ids_of (map put_all h.blocks)) i.kind)
        (λ b i t. subst (λ (ids : List ℕ). TargetsIn ids i.kind) (sym (ids_put end h.was f.blocks h.blocks)) t)
        (λ b i k. kill_targets (ids_of (map put_all h.blocks)) i.kind k.kind) h.blocks bare_sound.targets;
    slots = each_put end h.was f.blocks (λ b i. SlotsIn f.slots i.kind) (λ b i. SlotsIn f.slots i.kind) (λ b i t. t)
        (λ b i k. kill_slots f.slots i.kind k.kind) h.blocks bare_sound.slots;
    passed = each_put end h.was f.blocks (λ b i. KindPassesFirst f.slots i.kind) (λ b i. KindPassesFirst f.slots i.kind) (λ b i t. t)
        (λ b i k. kill_passed f.slots i.kind k.kind) h.blocks bare_sound.passed;
    objects = each_put end h.was f.blocks (λ b i. ObjectsIn f.objects i.kind) (λ b i. ObjectsIn f.objects i.kind) (λ b i t. t)
        (λ b i k. kill_objects i.kind k.kind) h.blocks bare_sound.objects;
    pointer = each_put end h.was f.blocks (λ b i. LeavesPointer i.kind) (λ b i. LeavesPointer i.kind) (λ b i t. t)
        (λ b i k. kill_pointer i.kind k.kind) h.blocks bare_sound.pointer;
    numbers = once_put (items_of h.blocks) (put_blocks end h.was f.blocks (items_of h.blocks) far h.blocks) (λ w c. c) bare_sound.numbers;
    origins = each_put end h.was f.blocks (λ b i. OriginIn b i.origin) (λ b i. OriginIn b i.origin) (λ b i t. again b i.origin t)
        (λ b i k. subst (OriginIn (put_all b)) (sym k.origin) (refl, omega arith)) h.blocks bare_sound.origins;
    ends = ends_all end h.was f.blocks h.blocks bare_sound.ends;
    last = last_put end h.was f.blocks h.blocks bare_sound.last;
  } where
    kill_objects : (k : ItemKind) → IsKillKind k → ObjectsIn f.objects k
    kill_objects (Mark v m) t = tt
    kill_objects (Phi p n) t = tt
    kill_objects (Code i n) t = absurd t

    again : (b : Block) (o : Origin) → OriginIn b o → OriginIn (put_all b) o
    again b (Kept p) t = t
    again b (Before p) t = t

  pub sound_killed : IsSound g
  sound_killed = subst IsSound (sym h.killed) sound_put
