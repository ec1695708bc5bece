-- The layout of a function's code alone is settled where the function's is.
use Rattle.std.proofs.Common.{◌≡◌, ℕ, zero, suc, ◌+◌, Bool, true, false, cond, ◌&&◌, nat_eq, List, [], ◌∷◌, Some, refl, sym, ap, subst, ◌∙◌}
use Rattle.std.specs.Prelude.{pos, negsuc, ◌-ℤ◌, slice_get}
use Rattle.std.proofs.lemmas.Bool.{eqb-true, eq-eqb}
use Rattle.rv64_instr.specs.Form.{is_within}
use Rattle.mir_func.specs.declared.block.Block.{Block}
use Rattle.mir_func.specs.declared.exit.Exit.{Exit}
use Rattle.mir_func.specs.declared.exit.Exit.TheVariants.{Perhaps}
use Rattle.mir_func.specs.declared.item.Item.{Item}
use Rattle.mir_func.specs.declared.position.Origin.{Origin}
use Rattle.mir_func.specs.declared.position.Pos.{Pos}
use Rattle.mir_func.specs.Exits.{exit_of}
use Rattle.mir_func.specs.Function.{FramedFunction}
use Rattle.mir_func.specs.Graph.{index_of, block_start}
use Rattle.mir_func.specs.SoundFrame.{body_of}
use Rattle.mir_func.specs.Successors.{pos_in}
use Rattle.mir_func.specs.Positions.{is_same_position}
use Rattle.emit_code.specs.BranchRelaxation.{IsBranchTo, with_short, reaches_in, IsClosed, IsSettled}
use Rattle.emit_code.specs.Rule.{Layout, items_at, address_in, start_of}
use Rattle.emit_code.proofs.Settled.{fetched, item_at}
use Rattle.invariance_code.proofs.Drops.{DropsEach, exit_at, down, up, items_drop, up_in, down_in, down_up_in, down_zero, up_down, exit_up}
use Rattle.invariance_code.proofs.Drops.{bodies_drop, index_same}
use Rattle.invariance_code.proofs.Sizes.{SameLong, bytes_same}

-- ---- one layout

same_test : (x y : Bool) → (x ≡ true → y ≡ true) → (y ≡ true → x ≡ true) → x ≡ y
same_test true y there back = sym (there refl)
same_test false true there back = back refl
same_test false false there back = refl

one_layout : (f : FramedFunction) (base : ℕ) (long other : Pos → Bool) → IsSettled (record { framed = f; base = base; long = long }) →
    IsSettled (record { framed = f; base = base; long = other }) →
    ◌≡◌ {A = Layout} (record { framed = f; base = base; long = long }) (record { framed = f; base = base; long = other })
one_layout f base long other is others = λ i. record {
  framed = f;
  base = base;
  long = λ p. same_test (long p) (other p) (is.least other others.closed p) (others.least long is.closed p) i;
}

-- of a function and its first address one layout is settled
pub same_layout : (l m : Layout) → l.framed ≡ m.framed → l.base ≡ m.base → IsSettled l → IsSettled m → l ≡ m
same_layout l m framed base is others =
    let as_m : ◌≡◌ {A = Layout} (record { framed = l.framed; base = l.base; long = m.long }) m = λ i. record
    { framed = framed i; base = base i; long = m.long } in
    one_layout l.framed l.base l.long m.long is (subst IsSettled (sym as_m) others) ∙ as_m

-- ---- points

both_true : (x y : Bool) → (x && y) ≡ true → (x ≡ true) × (y ≡ true)
both_true true true e = (refl, refl)
both_true true false e = absurd cc
both_true false y e = absurd cc

same_point : (p q : Pos) → is_same_position p q ≡ true → p ≡ q
same_point p q e =
    let both = both_true (nat_eq p.block q.block) (nat_eq p.item q.item) e in
    let b : p.block ≡ q.block = eqb-true p.block q.block both.0 in
    let n : p.item ≡ q.item = eqb-true p.item q.item both.1 in
    λ i. record { block = b i; item = n i }

equal_self : (n : ℕ) → nat_eq n n ≡ true
equal_self n = eq-eqb n n refl

point_same : (p q : Pos) → p ≡ q → is_same_position p q ≡ true
point_same p q e = (λ i. is_same_position p (sym e i)) ∙ (let b = equal_self p.block in let n = equal_self p.item in λ i. b i && n i)

-- ---- branches

-- the item at an index that control leaves so
pub record LeftBy (items : List Item) (n : ℕ) (x : Exit) : Type 0 where
  pub item : Item
  pub at : slice_get items n ≡ Some item
  pub goes : exit_of item.kind ≡ x

left_by : (items : List Item) (n : ℕ) (x : Exit) → exit_at items n ≡ Some x → LeftBy items n x
left_by [] n x e = absurd cc
left_by (i ∷ items) zero x e = record { item = i; at = refl; goes = cc }
left_by (i ∷ items) (suc n) x e = let h = left_by items n x e in record { item = h.item; at = h.at; goes = h.goes }

exit_of_item : (items : List Item) (n : ℕ) (i : Item) → slice_get items n ≡ Some i → exit_at items n ≡ Some (exit_of i.kind)
exit_of_item [] n i e = absurd cc
exit_of_item (x ∷ items) zero i e = let same : x ≡ i = cc in ap (λ (y : Item). Some (exit_of y.kind)) same
exit_of_item (x ∷ items) (suc n) i e = exit_of_item items n i e

-- a branch to a block, by how control leaves what stands at its point
branch_from : (f : FramedFunction) (p : Pos) (t : ℕ) → exit_at (items_at f.blocks p.block) p.item ≡ Some (Perhaps t) → IsBranchTo f p t
branch_from f p t e =
    let h = left_by (items_at f.blocks p.block) p.item (Perhaps t) e in
    record { item = h.item; stands = fetched f.blocks p.block p.item h.item h.at; goes = h.goes }

exit_from : (f : FramedFunction) (p : Pos) (t : ℕ) → IsBranchTo f p t → exit_at (items_at f.blocks p.block) p.item ≡ Some (Perhaps t)
exit_from f p t h =
    exit_of_item (items_at f.blocks p.block) p.item h.item (item_at f.blocks p.block p.item h.item h.stands) ∙ ap (λ (x : Exit). Some x) h.goes

-- ---- a function and its code alone

abbrev pub lay : FramedFunction → ℕ → (Pos → Bool) → Layout
lay f base long = record { framed = f; base = base; long = long }

module _ {w : Origin → Origin} (f : FramedFunction) (base : ℕ) {cs : List Block} (ds : DropsEach w f.blocks cs) where
  abbrev pub g : FramedFunction
  g = record f { blocks = cs }

  pub address_same : (long alone : Pos → Bool) → SameLong long alone ds → (p : Pos) →
      address_in (lay f base long) p ≡ address_in (lay g base alone) (down_in ds p)
  address_same long alone same p = ap (λ (n : ℕ). base + n) (bytes_same long alone ds same p)

  -- the address of code is that of the same code alone
  pub code_address : (long alone : Pos → Bool) → SameLong long alone ds → (p : Pos) →
      address_in (lay f base long) (up_in ds p) ≡ address_in (lay g base alone) p
  code_address long alone same p = address_same long alone same (up_in ds p) ∙ ap (address_in (lay g base alone)) (down_up_in ds p)

  pub start_same : (long alone : Pos → Bool) → SameLong long alone ds → (n : ℕ) → start_of (lay f base long) n ≡ start_of (lay g base alone) n
  start_same long alone same n =
      let k = suc (index_of (body_of f.blocks) n) in
      address_same long alone same (block_start k)
      ∙ ap (λ (j : ℕ). address_in (lay g base alone) (pos_in k j)) (down_zero (items_drop ds k))
      ∙ ap (λ (j : ℕ). address_in (lay g base alone) (block_start (suc j))) (index_same (bodies_drop ds) n)

  up_same : (p q : Pos) → is_same_position (up_in ds p) (up_in ds q) ≡ is_same_position p q
  up_same p q = same_test (is_same_position (up_in ds p) (up_in ds q)) (is_same_position p q)
      (λ e. point_same p q (sym (down_up_in ds p) ∙ ap (down_in ds) (same_point (up_in ds p) (up_in ds q) e) ∙ down_up_in ds q))
      (λ e. point_same (up_in ds p) (up_in ds q) (ap (up_in ds) (same_point p q e)))

  -- where the same branch is short
  short_same : (long alone : Pos → Bool) → SameLong long alone ds → (p : Pos) →
      SameLong (λ q. cond (is_same_position (up_in ds p) q) false (long q)) (λ q. cond (is_same_position p q) false (alone q)) ds
  short_same long alone same p q = let e = up_same p q in let h = same q in λ i. cond (e i) false (h i)

  reach_same : (long alone : Pos → Bool) → SameLong long alone ds → (p : Pos) (n : ℕ) →
      reaches_in (with_short (up_in ds p) (lay f base long)) (up_in ds p) n ≡ reaches_in (with_short p (lay g base alone)) p n
  reach_same long alone same p n =
      let short = λ (q : Pos). cond (is_same_position (up_in ds p) q) false (long q) in
      let short' = λ (q : Pos). cond (is_same_position p q) false (alone q) in
      let start = start_same short short' (short_same long alone same p) n in
      let here = code_address short short' (short_same long alone same p) p in
      λ i. is_within (negsuc 4095) (pos 4094) (pos (start i) -ℤ pos (here i))

  -- the code alone is closed where the function is
  closed_down : (long alone : Pos → Bool) → SameLong long alone ds → IsClosed (lay f base long) → IsClosed (lay g base alone)
  closed_down long alone same closed p n branch far =
      let e = exit_up (items_drop ds p.block) p.item ∙ exit_from g p n branch in
      let h = closed (up_in ds p) n (branch_from f (up_in ds p) n e) (reach_same long alone same p n ∙ far) in
      sym (same p) ∙ h

  -- and the function where the code alone is
  closed_up : (long alone : Pos → Bool) → SameLong long alone ds → IsClosed (lay g base alone) → IsClosed (lay f base long)
  closed_up long alone same closed p n branch far =
      let d = items_drop ds p.block in
      let e = exit_from f p n branch in
      let at : up d (down d p.item) ≡ p.item = up_down d p.item n e in
      let point : up_in ds (down_in ds p) ≡ p = λ i. pos_in p.block (at i) in
      let e' = sym (exit_up d (down d p.item)) ∙ ap (exit_at (items_at f.blocks p.block)) at ∙ e in
      let far' = sym (reach_same long alone same (down_in ds p) n) ∙ ap (λ (q : Pos). reaches_in (with_short q (lay f base long)) q n) point ∙ far in
      let h = closed (down_in ds p) n (branch_from g (down_in ds p) n e') far' in
      ap long (sym point) ∙ same (down_in ds p) ∙ h

  -- the long branches of the code alone
  abbrev pub long_alone : (Pos → Bool) → Pos → Bool
  long_alone long p = long (up_in ds p)

  pub settled_alone : (long : Pos → Bool) → IsSettled (lay f base long) → IsSettled (lay g base (long_alone long))
  settled_alone long is = record {
    closed = closed_down long (long_alone long) (λ p. refl) is.closed;
    least = λ other closed p e.
        sym (ap other (down_up_in ds p))
        ∙ is.least (λ q. other (down_in ds q)) (closed_up (λ q. other (down_in ds q)) other (λ q. ap other (down_up_in ds q)) closed) (up_in ds p) e;
  }
