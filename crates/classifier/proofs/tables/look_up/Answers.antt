use Rattle.std.proofs.Common.{rules}
use Rattle.classifier.proofs.Looks.{within, looked}
use Rattle.classifier.proofs.tables.look_up.Goals as goal

pub bounds-table-row : goal.bounds-table-row
bounds-table-row c = within c.args.zc c.args.table.now c.args.word _ _ c.requires (search rules) (search rules)

pub returns : goal.returns
returns c = looked c.args.zc c.args.table.now c.args.word _ _ c.requires (search rules) (search rules)
