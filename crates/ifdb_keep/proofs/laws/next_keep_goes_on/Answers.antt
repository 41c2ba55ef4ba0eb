use Rattle.ifdb_keep.proofs.Following.{follows, next_is_whole}
use Rattle.ifdb_keep.proofs.laws.next_keep_goes_on.Goals as goal

pub returns-clause-goes_on : goal.returns-clause-goes_on
returns-clause-goes_on c = follows c.replay_goes_on.ensures c.kept_replays.ensures

pub returns-clause-whole : goal.returns-clause-whole
returns-clause-whole c = next_is_whole
