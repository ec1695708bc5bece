-- What kills are, and from what they come.
use Rattle.std.proofs.Common.{◌≡◌, ℕ, List, [], ◌∷◌, filter, filter_map, flat_map, All, Contains, Option, Some, None, Bool, true, false, not}
use Rattle.std.proofs.Common.{cond, refl}
use Rattle.std.proofs.Common.{subst}
use Rattle.std.specs.List.{cons_option}
use Rattle.std.proofs.lemmas.List.Elements.{All-nil, All-cons, All-head, All-tail, All-append, All-filter, All-weaker}
use Rattle.mir_func.specs.declared.block.Block.{Block}
use Rattle.mir_func.specs.declared.item.Item.{Item}
use Rattle.mir_func.specs.declared.item.ItemKind.{ItemKind}
use Rattle.mir_func.specs.declared.item.ItemKind.TheVariants.{Code, Mark, Phi}
use Rattle.mir_func.specs.declared.location.Loc.{Loc}
use Rattle.mir_func.specs.declared.position.Origin.TheVariants.{Before}
use Rattle.mir_func.specs.declared.variable.MarkValue.TheVariants.{Nothing}
use Rattle.sem_mir.proofs.Places.{contains_head, contains_tail}
use Rattle.fold_rule_proof.specs.Kills.{kill_by, kills_same, once, is_bypassed, lost_ways, kills}

abbrev pub IsKillKind : ItemKind → Type 0
IsKillKind (Mark v Nothing) = Unit {0}
IsKillKind (Mark v _) = ⊥
IsKillKind (Phi None k) = Unit {0}
IsKillKind (Phi (Some p) k) = ⊥
IsKillKind (Code i k) = ⊥

-- an item that gives nothing, and stands before all of block e
pub record IsKill (e : ℕ) (i : Item) : Type 0 where
  pub kind : IsKillKind i.kind
  pub origin : i.origin ≡ Before (record { block = e; item = 0 })

module _ (end : ℕ → ℕ) (was : ℕ → Bool) (blocks : List Block) where
  -- the kill is that of a debug item of a block that is bypassed
  pub record ComesFrom (e : ℕ) (i : Item) : Type 0 where
    pub block : Block
    pub member : Contains blocks block
    pub bypassed : is_bypassed end was blocks e block ≡ true
    pub item : Item
    pub stood : Contains block.items item
    pub kill : kill_by e item.kind item.loc ≡ Some i

  module _ (e : ℕ) where
    abbrev From : Item → Type 0
    From = ComesFrom e

    abbrev by : Item → Option Item
    by i = kill_by e i.kind i.loc

    from_items : (b : Block) → Contains blocks b → is_bypassed end was blocks e b ≡ true → (xs : List Item) →
        ((x : Item) → Contains xs x → Contains b.items x) → All From (filter_map by xs)
    from_items b member bypassed [] sub = All-nil From
    from_items b member bypassed (x ∷ xs) sub =
        by_option (by x) refl (from_items b member bypassed xs (λ y h. sub y (contains_tail x y xs h))) where
          by_option : (o : Option Item) → by x ≡ o → All From (filter_map by xs) → All From (cons_option o (filter_map by xs))
          by_option None k rest = rest
          by_option (Some i) k rest = All-cons From i (filter_map by xs) (record {
            block = b;
            member = member;
            bypassed = bypassed;
            item = x;
            stood = sub x (contains_head x xs);
            kill = k;
          }) rest

    from_blocks : (bs : List Block) → ((b : Block) → Contains bs b → Contains blocks b) →
        All From (flat_map (λ b. filter_map by b.items) (filter (is_bypassed end was blocks e) bs))
    from_blocks [] sub = All-nil From
    from_blocks (b ∷ bs) sub =
        by_test (is_bypassed end was blocks e b) refl (from_blocks bs (λ c h. sub c (contains_tail b c bs h))) where
          later : List Block
          later = filter (is_bypassed end was blocks e) bs

          by_test : (z : Bool) → is_bypassed end was blocks e b ≡ z → All From (flat_map (λ b. filter_map by b.items) later) →
              All From (flat_map (λ b. filter_map by b.items) (cond z (b ∷ later) later))
          by_test true t rest = All-append From (filter_map by b.items) (flat_map (λ b. filter_map by b.items) later)
              (from_items b (sub b (contains_head b bs)) t b.items (λ x h. h)) rest
          by_test false t rest = rest

    all_once : (P : Item → Type 0) (is : List Item) → All P is → All P (once is)
    all_once P [] h = All-nil P
    all_once P (i ∷ is) h = All-cons P i (filter (λ j. not (kills_same i.kind j.kind)) (once is)) (All-head P i is h)
        (All-filter (λ j. not (kills_same i.kind j.kind)) P (once is) (all_once P is (All-tail P i is h)))

    pub each_from : All (ComesFrom e) (kills end was blocks e)
    each_from = all_once From (lost_ways end was blocks e) (from_blocks blocks (λ b h. h))

    some_kill : (i j : Item) → IsKill e j → Some j ≡ Some i → IsKill e i
    some_kill i j k h = let s : j ≡ i = cc in subst (IsKill e) s k

    kill_of : (kind : ItemKind) (l : Loc) (i : Item) → kill_by e kind l ≡ Some i → IsKill e i
    kill_of (Mark v m) l i h = some_kill i _ (record { kind = tt; origin = refl }) h
    kill_of (Phi p n) l i h = some_kill i _ (record { kind = tt; origin = refl }) h
    kill_of (Code c n) l i h = cc

    pub each_kill : All (IsKill e) (kills end was blocks e)
    each_kill = All-weaker From (IsKill e) (λ i w. kill_of w.item.kind w.item.loc i w.kill) (kills end was blocks e) each_from
