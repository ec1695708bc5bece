use Rattle.theorem_invariance.proofs.Text.{coded_alone, alike_layouts, same_layouts}
use Rattle.theorem_invariance.proofs.text_laws.layouts_alone.Goals as goal

pub returns-clause-alone : goal.returns-clause-alone
returns-clause-alone c = coded_alone

pub returns-clause-alike : goal.returns-clause-alike
returns-clause-alike c = alike_layouts

pub returns-clause-same : goal.returns-clause-same
returns-clause-same c = same_layouts
