-- The order of a block's origins, and which of f's stations may be passed by it.
use Rattle.std.proofs.Common.{◌≡◌, ℕ, ◌+◌, ◌*◌, ◌<◌, ◌≤◌, List, [], ◌∷◌, Option, Some, None, Bool, true, false, refl, sym, ap, ◌∙◌, subst, inl, inr, ◌⊎◌, arith}
use Rattle.std.proofs.lemmas.Bool.{cases_eq, cases_lt}
use Rattle.sem_mir.specs.mir_func.declared.position.Pos.{Pos}
use Rattle.sem_mir.specs.mir_func.declared.position.Origin.{Origin}
use Rattle.sem_mir.specs.mir_func.declared.position.Origin.TheVariants.{Kept, Before}
use Rattle.sem_mir.specs.mir_func.declared.item.Item.{Item}
use Rattle.sem_mir.specs.mir_func.Graph.{Program, Here}
use Rattle.sem_mir.specs.mir_func.Positions.{position_of}
use Rattle.sem_mir.specs.Align.{is_code, Count, moves_on, waits_at, SyncPoint, sync_point_of, IsOrigin, Same, since_of}
use Rattle.sem_mir.specs.Follow.{rank, next_rank, InOrder}
use Rattle.sem_simulation.specs.Refinement.{waiting, MayPass, gone, early, late}

pub rank_high : (o : Origin) → rank o ≤ 2 * (position_of o).item + 1
rank_high (Kept p) = omega arith
rank_high (Before p) = omega arith

pub rank_low : (o : Origin) → 2 * (position_of o).item ≤ rank o
rank_low (Kept p) = omega arith
rank_low (Before p) = omega arith

pub rank_next : (o : Origin) (n : ℕ) → n ≤ rank o → n ≤ next_rank o
rank_next (Kept p) n h = omega (arith, h)
rank_next (Before p) n h = h

pub same_pos : (p q : Pos) → p.block ≡ q.block → p.item ≡ q.item → p ≡ q
same_pos p q x y = λ i. record { block = x i; item = y i }

pub cases_pos : (p q : Pos) → (p ≡ q) ⊎ (p ≡ q → ⊥)
cases_pos p q =
    elim (cases_eq p.block q.block) as (λ z. (p ≡ q) ⊎ (p ≡ q → ⊥)) [
      | inl x ↦ elim (cases_eq p.item q.item)
          as (λ z. (p ≡ q) ⊎ (p ≡ q → ⊥)) [ inl y ↦ inl (same_pos p q x y) | inr y ↦ inr (λ e. y (ap (λ (r : Pos). r.item) e)) ]
      | inr x ↦ inr (λ e. x (ap (λ (r : Pos). r.block) e))
    ]

pub cases_waiting : (l : Option Pos) (q : Pos) → (l ≡ Some q) ⊎ (l ≡ Some q → ⊥)
cases_waiting None q = inr (λ e. cc)
cases_waiting (Some p) q = elim (cases_pos p q) as (λ z. (Some p ≡ Some q) ⊎ (Some p ≡ Some q → ⊥)) [ inl e ↦ inl (ap Some e) | inr ne ↦ inr (λ e. ne cc) ]

-- what was before a rank of its block is done, or the source still waits at it
abbrev pub IsDone : (n : ℕ) → Option Pos → Pos → Type 0
IsDone n last q = (2 * q.item + 2 ≤ n) ⊎ (last ≡ Some q)

pub done_more : (n m : ℕ) (last : Option Pos) (q : Pos) → n ≤ m → IsDone n last q → IsDone m last q
done_more n m last q le (inl h) = inl (omega (arith, le, h))
done_more n m last q le (inr h) = inr h

-- where the source waits after code of an origin that isn't a jump
abbrev pub waits_after : Origin → Option Pos
waits_after o = waiting (since_of (waits_at false o)) (position_of o)

pub done_past : (o : Origin) (n : ℕ) (last : Option Pos) (q : Pos) → (position_of o).block ≡ q.block → n ≤ rank o → (last ≡ Some q → 2 * q.item ≤ n) →
    IsDone n last q → IsDone (next_rank o) (waits_after o) q
done_past (Kept r) n last q e low known (inl h) = inl (omega (arith, low, h))
done_past (Kept r) n last q e low known (inr h) = let k = known h in inl (omega (arith, k, low))
done_past (Before r) n last q e low known (inl h) = inl (omega (arith, low, h))
done_past (Before r) n last q e low known (inr h) =
    let k = known h in
    elim (cases_eq q.item r.item) as (λ z. IsDone (2 * r.item) (Some r) q) [
      | inl i ↦ inr (ap Some (same_pos r q e (sym i)))
      | inr ne ↦ inl (omega (arith, k, low, ne))
    ]

pub done_self : (o : Origin) → IsDone (next_rank o) (waits_after o) (position_of o)
done_self (Kept r) = inl (omega arith)
done_self (Before r) = inr refl

waits_where : (o : Origin) (q : Pos) → waits_after o ≡ Some q → (q ≡ position_of o) × (2 * q.item ≤ next_rank o)
waits_where (Kept r) q e = cc
waits_where (Before r) q e = let k : r ≡ q = cc in (sym k, subst (λ (z : Pos). 2 * z.item ≤ 2 * r.item) k (omega arith))

-- what of g is done once it is past its item y at p
pub done_next : (g : Program) → ((q : Pos) (i : Item) → g.fetch q ≡ Here i → (position_of i.origin).block ≡ q.block) →
    (p : Pos) (b n n' : ℕ) (last last' : Option Pos) (y : Item) → b ≡ p.block → g.fetch p ≡ Here y →
    ((q : Pos) → q.block ≡ b → IsDone n last q → IsDone n' last' q) → (is_code y.kind ≡ true → IsDone n' last' (position_of y.origin)) →
    ((j : ℕ) (i : Item) → j < p.item → g.fetch (record { block = b; item = j }) ≡ Here i → is_code i.kind ≡ true → IsDone n last (position_of i.origin)) →
    (j : ℕ) (i : Item) → j < p.item + 1 → g.fetch (record { block = b; item = j }) ≡ Here i → is_code i.kind ≡ true → IsDone n' last' (position_of i.origin)
done_next g home p b n n' last last' y bp fy more own done j i lt fi ci =
    elim (cases_lt j p.item) as (λ z. IsDone n' last' (position_of i.origin)) [
      | inl l ↦ more (position_of i.origin) (home _ i fi) (done j i l fi ci)
      | inr ge ↦
          let w : Here y ≡ Here i = sym fy ∙ subst (λ (z : Pos). g.fetch z ≡ Here i)
          (same_pos (record { block = b; item = j }) p bp (omega (arith, lt, ge))) fi in
          let yi : y ≡ i = cc in
          subst (λ (z : Item). IsDone n' last' (position_of z.origin)) yi (own (subst (λ (z : Item). is_code z.kind ≡ true) (sym yi) ci))
    ]

-- a position is no later than the code that is ahead in its block
abbrev pub IsNoLater : (b : ℕ) → Pos → List Item → Type 0
IsNoLater b p [] = Unit {0}
IsNoLater b p (y ∷ ys) = (is_code y.kind ≡ true → (p.block ≡ b) × (2 * p.item ≤ rank y.origin)) × IsNoLater b p ys

pub no_later : (b n : ℕ) (p : Pos) (ys : List Item) → p.block ≡ b → 2 * p.item ≤ n → InOrder b n ys → IsNoLater b p ys
no_later b n p [] e le o = tt
no_later b n p (y ∷ ys) e le o = (
  λ c. (e, let k = o.1 in omega (arith, le, k)),
  no_later b (next_rank y.origin) p ys e
      (let k = o.1 in rank_next y.origin (2 * p.item) (omega (arith, le, k))) o.2,
)

module _ (place : ℕ → ℕ) where
  -- p is at a rank of block b or after it, or in a block further down
  abbrev pub IsFrom : (b n : ℕ) → Pos → Type 0
  IsFrom b n p = ((p.block ≡ b) × (n ≤ 2 * p.item + 1)) ⊎ (place b < place p.block)

  -- p is at a rank of block b or before it, or in a block further up
  abbrev pub IsUntil : (b n : ℕ) → Pos → Type 0
  IsUntil b n p = ((p.block ≡ b) × (2 * p.item ≤ n)) ⊎ (place p.block < place b)

  pub from_less : (b n m : ℕ) (p : Pos) → n ≤ m → IsFrom b m p → IsFrom b n p
  from_less b n m p le (inl x) = inl (x.0, let k = x.1 in omega (arith, le, k))
  from_less b n m p le (inr x) = inr x

  pub until_more : (b n m : ℕ) (p : Pos) → n ≤ m → IsUntil b n p → IsUntil b m p
  until_more b n m p le (inl x) = inl (x.0, let k = x.1 in omega (arith, le, k))
  until_more b n m p le (inr x) = inr x

  pub until_here : (b n : ℕ) (q : Pos) → q.block ≡ b → IsUntil b n q → 2 * q.item ≤ n
  until_here b n q e (inl x) = x.1
  until_here b n q e (inr x) = let k : place q.block ≡ place b = ap place e in absurd (omega (arith, x, k))

  -- past code of an origin that isn't a jump: where the source may wait, and what is done
  pub waits_until : (b : ℕ) (o : Origin) → (position_of o).block ≡ b → (q : Pos) → waits_after o ≡ Some q → IsUntil b (next_rank o) q
  waits_until b o home q e = let z = waits_where o q e in inl (ap (λ (p : Pos). p.block) z.0 ∙ home, z.1)

  pub done_code : (b n : ℕ) (last : Option Pos) (o : Origin) → (position_of o).block ≡ b → n ≤ rank o → ((q : Pos) → last ≡ Some q → IsUntil b n q) →
      (q : Pos) → q.block ≡ b → IsDone n last q → IsDone (next_rank o) (waits_after o) q
  done_code b n last o home low known q qb h = done_past o n last q (home ∙ sym qb) low (λ e. until_here b n q qb (known q e)) h

  -- into the next block
  pub until_next : (b c n : ℕ) (q : Pos) → place b < place c → IsUntil b n q → IsUntil c 0 q
  until_next b c n q lt (inl x) = let k : place q.block ≡ place b = ap place x.0 in inr (omega (arith, k, lt))
  until_next b c n q lt (inr x) = inr (omega (arith, x, lt))

  pub from_next : (b c n : ℕ) (p : Pos) → place b < place c → IsFrom c 0 p → IsFrom b n p
  from_next b c n p lt (inl x) = let k : place p.block ≡ place c = ap place x.0 in inr (omega (arith, k, lt))
  from_next b c n p lt (inr x) = inr (omega (arith, x, lt))

  -- code of f that doesn't jump may be passed on the way to p further on, if g has nothing from its position
  module _ (gs : Pos → Option SyncPoint) (count : Count) (b n : ℕ) (last : Option Pos) (j : Item) (p : Pos) (home : (position_of j.origin).block ≡ b)
      (low : n ≤ rank j.origin) (known : (q : Pos) → last ≡ Some q → IsUntil b n q) (from : IsFrom b (next_rank j.origin) p) where
    waits_there : (o : Origin) → o ≡ j.origin → p ≡ position_of o → since_of (waits_at false o) ≡ Same
    waits_there (Before q) e at = refl
    waits_there (Kept q) e at =
        elim from as (λ z. since_of (waits_at false (Kept q)) ≡ Same) [
          | inl x ↦
              let i : p.item ≡ q.item = ap (λ (r : Pos). r.item) at in
              let k : 2 * q.item + 2 ≤ 2 * p.item + 1 = subst (λ (o : Origin). next_rank o ≤ 2 * p.item + 1) (sym e) x.1 in
              absurd (omega (arith, i, k))
          | inr x ↦
              let k : place p.block ≡ place b = ap place (ap (λ (r : Pos). r.block) at ∙ ap (λ (o : Origin). (position_of o).block) e ∙ home) in
              absurd (omega (arith, x, k))
        ]

    same_item : (o : Origin) → 2 * p.item ≤ n → n ≤ rank o → next_rank o ≤ 2 * p.item + 1 → p.item ≡ (position_of o).item
    same_item (Kept q) x y z = absurd (omega (arith, x, y, z))
    same_item (Before q) x y z = omega (arith, x, y, z)

    not_waiting : (p ≡ position_of j.origin → ⊥) → last ≡ Some p → ⊥
    not_waiting ne e =
        elim (known p e) as (λ z. ⊥) [
          | inl x ↦
              elim from as (λ z. ⊥) [
                | inl y ↦ ne (same_pos p (position_of j.origin) (x.0 ∙ sym home) (same_item j.origin x.1 low y.1))
                | inr y ↦ (let k : place p.block ≡ place b = ap place x.0 in omega (arith, y, k))
              ]
          | inr x ↦
              elim from as (λ z. ⊥) [
                | inl y ↦ (let k : place p.block ≡ place b = ap place y.0 in omega (arith, x, k))
                | inr y ↦ omega (arith, x, y)
              ]
        ]

    pub may_pass : moves_on count j.kind ≡ false →
        ((p ≡ position_of j.origin → ⊥) → (last ≡ Some (position_of j.origin) → ⊥) → IsOrigin gs (position_of j.origin) → ⊥) →
        MayPass gs p last (sync_point_of count j)
    may_pass stays lacks =
        elim (cases_pos p (position_of j.origin)) as (λ z. MayPass gs p last (sync_point_of count j)) [
          | inl e ↦ early (sym e) (ap (λ (z : Bool). since_of (waits_at z j.origin)) stays ∙ waits_there j.origin refl e)
          | inr ne ↦
              elim (cases_waiting last (position_of j.origin)) as (λ z. MayPass gs p last (sync_point_of count j)) [
                | inl e ↦ late e (λ h. ne (sym h))
                | inr far ↦ gone (lacks ne far) (not_waiting ne)
              ]
        ]
