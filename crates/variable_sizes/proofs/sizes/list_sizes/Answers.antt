use Rattle.variable_sizes.proofs.sizes.list_sizes.Goals as goal

pub returns : goal.returns
returns c = record {
  table = c.in_ok-table.table;
  types = c.in_ok-table.ensures.types;
  known = c.in_ok-table.ensures.known;
  are = c.in_ok-sizes.ensures;
}
