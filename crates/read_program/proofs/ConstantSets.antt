-- The numbers of constants in a set: the code that is asked of the set is that which is asked of their list.
use Rattle.std.proofs.Common.{◌≡◌, ℕ, ◌+◌, ◌<◌, ◌≤◌, Bool, ◌||◌, eqb, nat_eq, List, [], ◌∷◌, length, get_or, take}
use Rattle.std.proofs.Common.{refl, sym, ap, ◌∙◌}
use Rattle.std.specs.List.{list_all, list_any}
use Rattle.std.proofs.lemmas.List.{take_all}
use Rattle.std.proofs.lemmas.List.Folds.{list_any_more}
use Rattle.rv64_instr.specs.declared.operand.Operand.{Operand}
use Rattle.rv64_instr.specs.declared.operand.Operand.TheVariants.{Part}
use Rattle.rv64_instr.specs.declared.symbol.Symbol.{Symbol}
use Rattle.rv64_instr.specs.declared.symbol.Symbol.TheVariants.{Global, Constant}
use Rattle.mir_func.specs.declared.block.Block.{Block}
use Rattle.mir_func.specs.declared.item.ItemKind.{ItemKind}
use Rattle.mir_func.specs.declared.item.ItemKind.TheVariants.{Code, Mark, Phi}
use Rattle.mir_pool.specs.declared.constant.PoolConstant.{PoolConstant}
use Rattle.mir_pool.specs.Pool.{constant_ids}
use Rattle.read_body.specs.FirstUseOrder.{is_met, met}
use Rattle.read_program.specs.Pool.{is_symbol_known, is_operand_known, is_kind_known, are_known}
use Rattle.read_program.proofs.Entries.{met_is, eqb_turned}

-- ---- the set of the numbers

-- a number is one of those of constants exactly if a constant has it
any_id : (n : ℕ) (cs : List PoolConstant) → list_any (nat_eq n) (constant_ids cs) ≡ list_any (λ (c : PoolConstant). nat_eq n c.id) cs
any_id n [] = refl
any_id n (c ∷ cs) = ap (λ (b : Bool). nat_eq n c.id || b) (any_id n cs)

pub set_more : (cs : List PoolConstant) (set : List ℕ) (k : ℕ) (none : PoolConstant) → k < length cs →
    ((n : ℕ) → is_met n set ≡ list_any (nat_eq n) (constant_ids (take k cs))) → (n : ℕ) →
    is_met n (met (get_or cs k none).id set) ≡ list_any (nat_eq n) (constant_ids (take (k + 1) cs))
set_more cs set k none lt so_far n =
    let id = (get_or cs k none).id in
    met_is n id set ∙ ap (λ (b : Bool). b || eqb id n) (so_far n ∙ any_id n (take k cs))
    ∙ ap (λ (b : Bool). list_any (λ (x : PoolConstant). nat_eq n x.id) (take k cs) || b) (eqb_turned id n)
    ∙ sym (list_any_more (λ (x : PoolConstant). nat_eq n x.id) cs k none lt)
    ∙ sym (any_id n (take (k + 1) cs))

pub set_all : (cs : List PoolConstant) (set : List ℕ) (k : ℕ) → length cs ≤ k →
    ((n : ℕ) → is_met n set ≡ list_any (nat_eq n) (constant_ids (take k cs))) → (n : ℕ) → is_met n set ≡ list_any (nat_eq n) (constant_ids cs)
set_all cs set k all so_far n = so_far n ∙ ap (λ (l : List PoolConstant). list_any (nat_eq n) (constant_ids l)) (take_all k cs all)

-- ---- lists with the same numbers

module _ (ids others : List ℕ) (same : (n : ℕ) → is_met n ids ≡ list_any (nat_eq n) others) where
  same_symbol : (symbol : Symbol) → is_symbol_known ids symbol ≡ is_symbol_known others symbol
  same_symbol (Global name) = refl
  same_symbol (Constant n) = same n

  same_operand : (o : Operand) → is_operand_known ids o ≡ is_operand_known others o
  same_operand (Part half y) = same_symbol y.symbol
  same_operand _ = refl

  same_kind : (kind : ItemKind) → is_kind_known ids kind ≡ is_kind_known others kind
  same_kind (Code i k) = λ j. list_all (λ o. same_operand o j) i.operands
  same_kind (Mark v m) = refl
  same_kind (Phi p k) = refl

  pub same_known : (bs : List Block) → are_known ids bs ≡ are_known others bs
  same_known bs = λ j. list_all (λ b. list_all (λ i. same_kind i.kind j) b.items) bs
