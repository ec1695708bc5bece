-- What holds of each register that is read holds of each root.
use Rattle.std.proofs.Common.{◌≡◌, ℕ, zero, suc, List, [], ◌∷◌, filter, All, Bool, true, false, cond, nat_eq, refl}
use Rattle.std.proofs.lemmas.List.Elements.{All-nil, All-cons, All-head, All-tail, All-append, All-filter}
use Rattle.rv64_instr.specs.Row.{Row, Fixes, Moves, Sets, Addresses, Loads, Stores, LoadsSlot, StoresSlot, Branches, Jumps, Calls, Returns, Unfit}
use Rattle.copyprop_block.specs.declared.roots.Root.{Root}
use Rattle.copyprop_block.specs.Roots.{root_of, outlives, roots_after}

module _ (P : ℕ → Type 0) where
  abbrev pub OfRoot : Root → Type 0
  OfRoot x = P x.root

  abbrev pub Reals : List Root → Type 0
  Reals e = All OfRoot e

  pub real_root : (e : List Root) (r : ℕ) → Reals e → P r → P (root_of e r)
  real_root [] r h p = p
  real_root (x ∷ e) r h p = by_test (nat_eq x.copy r) (real_root e r (All-tail OfRoot x e h) p) where
    by_test : (z : Bool) → P (root_of e r) → P (cond z x.root (root_of e r))
    by_test true later = All-head OfRoot x e h
    by_test false later = later

  fewer : (r : Row) (e : List Root) → Reals e → Reals (filter (outlives r) e)
  fewer r e h = All-filter (outlives r) OfRoot e h

  -- where a copy's source has it
  pub real_after : (r : Row) (e : List Root) → ((rd s : ℕ) → r ≡ Moves rd s → P s) → Reals e → Reals (roots_after r e)
  real_after (Moves (suc rd) s) e source h =
      All-append OfRoot (filter (outlives (Moves (suc rd) s)) e) (record { copy = suc rd; root = s } ∷ []) (fewer (Moves (suc rd) s) e h)
      (All-cons OfRoot (record { copy = suc rd; root = s }) [] (source (suc rd) s refl) (All-nil OfRoot))
  real_after (Moves zero s) e source h = fewer (Moves zero s) e h
  real_after (Fixes rd n) e source h = fewer (Fixes rd n) e h
  real_after (Sets rd op a b) e source h = fewer (Sets rd op a b) e h
  real_after (Addresses rd n o) e source h = fewer (Addresses rd n o) e h
  real_after (Loads rd op b o) e source h = fewer (Loads rd op b o) e h
  real_after (Stores op rs b o) e source h = fewer (Stores op rs b o) e h
  real_after (LoadsSlot rd n) e source h = fewer (LoadsSlot rd n) e h
  real_after (StoresSlot rs n) e source h = fewer (StoresSlot rs n) e h
  real_after (Branches op a b t) e source h = fewer (Branches op a b t) e h
  real_after (Jumps t) e source h = fewer (Jumps t) e h
  real_after (Calls call) e source h = fewer (Calls call) e h
  real_after (Returns v) e source h = fewer (Returns v) e h
  real_after Unfit e source h = fewer Unfit e h
