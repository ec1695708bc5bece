use Rattle.std.proofs.Common.{refl}
use Rattle.pass_losses.proofs.Sorting.{each, in_order, same_losses}
use Rattle.pass_losses.proofs.told.put_in_order.Goals as goal

pub returns-clause-ordered : goal.returns-clause-ordered
returns-clause-ordered c =
    in_order _ (record {
      reasons = each _ (
        each _ (refl, refl, refl, refl, refl, refl, refl, refl, refl),
        each _ (refl, refl, refl, refl, refl, refl, refl, refl, refl),
        each _ (refl, refl, refl, refl, refl, refl, refl, refl, refl),
        each _ (refl, refl, refl, refl, refl, refl, refl, refl, refl),
        each _ (refl, refl, refl, refl, refl, refl, refl, refl, refl),
        each _ (refl, refl, refl, refl, refl, refl, refl, refl, refl),
        each _ (refl, refl, refl, refl, refl, refl, refl, refl, refl),
        each _ (refl, refl, refl, refl, refl, refl, refl, refl, refl),
        each _ (refl, refl, refl, refl, refl, refl, refl, refl, refl),
      );
      numbers = λ k l r s. refl;
      marks = λ p q r s. refl;
      registers = λ x y r s. refl;
      mark_number = λ p l r s. refl;
      register_number = λ x l r s. refl;
      register_mark = λ x q r s. refl;
    }) _ c.sort_once.ensures.sorted

pub returns-clause-same : goal.returns-clause-same
returns-clause-same c =
    same_losses _ (record {
      reasons = each _ (
        each _ (refl, refl, refl, refl, refl, refl, refl, refl, refl),
        each _ (refl, refl, refl, refl, refl, refl, refl, refl, refl),
        each _ (refl, refl, refl, refl, refl, refl, refl, refl, refl),
        each _ (refl, refl, refl, refl, refl, refl, refl, refl, refl),
        each _ (refl, refl, refl, refl, refl, refl, refl, refl, refl),
        each _ (refl, refl, refl, refl, refl, refl, refl, refl, refl),
        each _ (refl, refl, refl, refl, refl, refl, refl, refl, refl),
        each _ (refl, refl, refl, refl, refl, refl, refl, refl, refl),
        each _ (refl, refl, refl, refl, refl, refl, refl, refl, refl),
      );
      numbers = λ k l r s. refl;
      marks = λ p q r s. refl;
      registers = λ x y r s. refl;
      number_mark = λ k q r s. refl;
      number_register = λ k y r s. refl;
      mark_number = λ p l r s. refl;
      mark_register = λ p y r s. refl;
      register_number = λ x l r s. refl;
      register_mark = λ x q r s. refl;
    }) _ _ c.sort_once.ensures.from c.sort_once.ensures.kept
