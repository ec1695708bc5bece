-- Where x2 is set in the items of a function with its frame: right at the start, and right before each item that leads back to the caller.
use Rattle.std.proofs.Common.{◌≡◌, ◌⊎◌, ℕ, zero, suc, pos, ◌-ℤ◌, List, [], ◌∷◌, ◌++◌, map, All, Contains, slice_get, Option, Some, None, Bool, true, false}
use Rattle.std.proofs.Common.{◌||◌, nat_eq, refl, sym, ap, ◌∙◌, subst, inl, inr, eq-eqb, append_assoc, arith}
use Rattle.std.specs.List.{list_any}
use Rattle.std.proofs.lemmas.List.Elements.{All-head, All-tail}
use Rattle.rv64_instr.specs.Row.{add_row, row_of}
use Rattle.mir_func.specs.declared.exit.Exit.TheVariants.{Onward}
use Rattle.mir_func.specs.declared.framed.SavedRegister.{SavedRegister}
use Rattle.mir_func.specs.declared.item.Item.{Item}
use Rattle.mir_func.specs.declared.item.ItemKind.{ItemKind}
use Rattle.mir_func.specs.declared.item.ItemKind.TheVariants.{Code, Mark, Phi}
use Rattle.mir_func.specs.Exits.{row_exit, exit_of, leads_back}
use Rattle.mir_func.specs.Sound.{LeavesPointer}
use Rattle.mir_func.specs.SoundFrame.{SAVED, adds_to_pointer, saves, restores, prologue_code, epilogue_code, AreCode, IsBody, GivesBack, goes_on, returns}
use Rattle.mir_func.proofs.Leading.{onward_leads}
use Rattle.machine_steps_proof.proofs.Registers.{LeavesTwo, leaves_two}

abbrev pub KindLeavesTwo : ItemKind → Type 0
KindLeavesTwo (Code c k) = LeavesTwo (row_of c)
KindLeavesTwo (Mark v m) = Unit {0}
KindLeavesTwo (Phi p k) = Unit {0}

pub kind_leaves : (k : ItemKind) → LeavesPointer k → KindLeavesTwo k
kind_leaves (Code c n) h = leaves_two c h
kind_leaves (Mark v m) h = tt
kind_leaves (Phi p n) h = tt

abbrev pub Stays : Option Item → Type 0
Stays None = Unit {0}
Stays (Some i) = leads_back i.kind ≡ false

-- what an item of a block does with x2, and whether one that leads back to the caller comes next
pub data Motion (size : ℕ) : ItemKind → Option Item → Type 0 where
  keeps : {k : ItemKind} {next : Option Item} → leads_back k ≡ false → KindLeavesTwo k → Stays next → Motion size k next
  raises : {k : ItemKind} {next : Option Item} (l : Item) → k ≡ Code (adds_to_pointer (pos size)) None → next ≡ Some l → leads_back l.kind ≡ true →
      Motion size k next
  ends : {k : ItemKind} {next : Option Item} → leads_back k ≡ true → KindLeavesTwo k → Motion size k next

-- of each item of a list
pub record Moves (size : ℕ) (items : List Item) : Type 0 where
  pub each : (k : ℕ) (i : Item) → slice_get items k ≡ Some i → Motion size i.kind (slice_get items (suc k))
  pub first : Stays (slice_get items 0)

pub adds_onward : (n : ℕ) → row_exit (add_row 2 2 n) ≡ Onward
adds_onward zero = refl
adds_onward (suc n) = refl

more : (size : ℕ) (x : Item) (xs : List Item) → leads_back x.kind ≡ false → KindLeavesTwo x.kind → Moves size xs → Moves size (x ∷ xs)
more size x xs goes leaves h = record { each = by_index; first = goes } where
  by_index : (k : ℕ) (i : Item) → slice_get (x ∷ xs) k ≡ Some i → Motion size i.kind (slice_get (x ∷ xs) (suc k))
  by_index zero i e = let same : x ≡ i = cc in subst (λ (z : Item). Motion size z.kind (slice_get xs 0)) same (keeps goes leaves h.first)
  by_index (suc k) i e = h.each k i e

pub not_two : (rs : List ℕ) (r : ℕ) → list_any (nat_eq 2) rs ≡ false → Contains rs r → r ≡ 2 → ⊥
not_two [] r none (k, lt, e) q = omega (arith, lt)
not_two (x ∷ rs) r none (zero, lt, e) q = by_test (nat_eq 2 x) (eq-eqb 2 x (sym (e ∙ q))) none where
  by_test : (b : Bool) → b ≡ true → (b || list_any (nat_eq 2) rs) ≡ false → ⊥
  by_test true t n = cc
  by_test false t n = cc
not_two (x ∷ rs) r none (suc k, lt, e) q = not_two rs r (tail (nat_eq 2 x) none) (k, omega (arith, lt), e) q where
  tail : (b : Bool) → (b || list_any (nat_eq 2) rs) ≡ false → list_any (nat_eq 2) rs ≡ false
  tail true n = cc
  tail false n = n

saved_leaves : (s : SavedRegister) → Contains SAVED s.register → s.register ≡ 2 → ⊥
saved_leaves s h = not_two SAVED s.register refl h

-- the epilogue and the item that leads back to the caller
gives_back : (size : ℕ) (saved : List SavedRegister) (items : List Item) (last : Item) → All (λ (s : SavedRegister). Contains SAVED s.register) saved →
    AreCode items (epilogue_code size saved) → leads_back last.kind ≡ true → LeavesPointer last.kind → Moves size (items ++ last ∷ [])
gives_back size [] [] last kept code final leaves = cc
gives_back size [] (x ∷ []) last kept code final leaves = record { each = by_index; first = onward_leads x.kind goes } where
  kind : x.kind ≡ Code (adds_to_pointer (pos size)) None
  kind = cc

  goes : exit_of x.kind ≡ Onward
  goes = ap exit_of kind ∙ adds_onward (Rattle.rv64_instr.specs.Arithmetic.word (pos size))

  by_index : (k : ℕ) (i : Item) → slice_get (x ∷ last ∷ []) k ≡ Some i → Motion size i.kind (slice_get (x ∷ last ∷ []) (suc k))
  by_index zero i e = let same : x ≡ i = cc in subst (λ (z : Item). Motion size z.kind (Some last)) same (raises last kind refl final)
  by_index (suc zero) i e = let same : last ≡ i = cc in subst (λ (z : Item). Motion size z.kind None) same (ends final (kind_leaves last.kind leaves))
  by_index (suc (suc k)) i e = cc
gives_back size [] (x ∷ y ∷ ys) last kept code final leaves = cc
gives_back size (s ∷ saved) [] last kept code final leaves = cc
gives_back size (s ∷ saved) (x ∷ xs) last kept code final leaves =
    let kind : x.kind ≡ Code (restores s) None = cc in
    let rest : AreCode xs (epilogue_code size saved) = cc in
    let goes : exit_of x.kind ≡ Onward = ap exit_of kind in
    more size x (xs ++ last ∷ []) (onward_leads x.kind goes)
    (subst KindLeavesTwo (sym kind) (saved_leaves s (All-head (λ (z : SavedRegister). Contains SAVED z.register) s saved kept)))
    (gives_back size saved xs last (All-tail (λ (z : SavedRegister). Contains SAVED z.register) s saved kept) rest final leaves)

body_moves : (size : ℕ) (body items : List Item) → All IsBody body → Moves size items → Moves size (body ++ items)
body_moves size [] items h rest = rest
body_moves size (x ∷ body) items h rest =
    let is = All-head IsBody x body h in
    more size x (body ++ items) is.stays (kind_leaves x.kind is.pointer) (body_moves size body items (All-tail IsBody x body h) rest)

no_items : (size : ℕ) → Moves size []
no_items size = record { each = λ k i e. cc; first = tt }

only_body : (size : ℕ) (items : List Item) → All IsBody items → Moves size items
only_body size [] h = no_items size
only_body size (x ∷ items) h =
    let is = All-head IsBody x items h in
    more size x items is.stays (kind_leaves x.kind is.pointer) (only_body size items (All-tail IsBody x items h))

-- the items of a block of a function with a frame
pub block_moves : (size : ℕ) (saved : List SavedRegister) (items : List Item) → All (λ (s : SavedRegister). Contains SAVED s.register) saved →
    GivesBack (epilogue_code size saved) items → Moves size items
block_moves size saved items kept (goes_on body) = only_body size items body
block_moves size saved _ kept (returns body given_back last is code final leaves) =
    subst (Moves size) (sym (append_assoc body given_back (last ∷ [])))
    (body_moves size body (given_back ++ last ∷ []) is (gives_back size saved given_back last kept code final leaves))

-- what an item of the prologue does: the first lowers x2, and the others leave it
pub record IsOfPrologue (size k : ℕ) (kind : ItemKind) : Type 0 where
  pub onward : exit_of kind ≡ Onward
  pub motion : ((k ≡ 0) × (kind ≡ Code (adds_to_pointer (pos 0 -ℤ pos size)) None)) ⊎ ((k ≡ 0 → ⊥) × KindLeavesTwo kind)

save_items : (saved : List SavedRegister) (items : List Item) → AreCode items (map saves saved) → (k : ℕ) (i : Item) → slice_get items k ≡ Some i →
    (exit_of i.kind ≡ Onward) × KindLeavesTwo i.kind
save_items [] [] code k i e = cc
save_items [] (x ∷ xs) code k i e = cc
save_items (s ∷ saved) [] code k i e = cc
save_items (s ∷ saved) (x ∷ xs) code zero i e =
    let same : x ≡ i = cc in
    let kind : x.kind ≡ Code (saves s) None = cc in
    let own : i.kind ≡ Code (saves s) None = ap (λ (z : Item). z.kind) (sym same) ∙ kind in
    (ap exit_of own, subst KindLeavesTwo (sym own) tt)
save_items (s ∷ saved) (x ∷ xs) code (suc k) i e = let rest : AreCode xs (map saves saved) = cc in save_items saved xs rest k i e

pub prologue_moves : (size : ℕ) (saved : List SavedRegister) (items : List Item) → AreCode items (prologue_code size saved) →
    (k : ℕ) (i : Item) → slice_get items k ≡ Some i → IsOfPrologue size k i.kind
prologue_moves size saved [] code k i e = cc
prologue_moves size saved (x ∷ xs) code zero i e =
    let same : x ≡ i = cc in
    let kind : x.kind ≡ Code (adds_to_pointer (pos 0 -ℤ pos size)) None = cc in
    let own : i.kind ≡ Code (adds_to_pointer (pos 0 -ℤ pos size)) None = ap (λ (z : Item). z.kind) (sym same) ∙ kind in
    record { onward = ap exit_of own ∙ adds_onward (Rattle.rv64_instr.specs.Arithmetic.word (pos 0 -ℤ pos size)); motion = inl (refl, own) }
prologue_moves size saved (x ∷ xs) code (suc k) i e =
    let rest : AreCode xs (map saves saved) = cc in
    let s = save_items saved xs rest k i e in
    record { onward = s.0; motion = inr (λ z. omega (arith, z), s.1) }
