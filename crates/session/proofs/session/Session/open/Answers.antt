use Rattle.session.proofs.Runs.{all_lived}
use Rattle.session.proofs.session.Session.open.Goals as goal

pub returns-clause-lives : goal.returns-clause-lives
returns-clause-lives c = all_lived
