use Rattle.memory.specs.Searches.{finds_first, first_finds}
use Rattle.memory.proofs.rows.found_once.Goals as goal

pub returns : goal.returns
returns g c =
    record {
      some = first_finds (λ row. g.R.Row.answers row c.args.n) c.args.rows.now;
      only = finds_first (λ row. g.R.Row.answers row c.args.n) c.args.rows.now;
    }
