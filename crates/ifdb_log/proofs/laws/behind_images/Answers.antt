use Rattle.ifdb_log.proofs.Fronts.{images}
use Rattle.ifdb_log.proofs.laws.behind_images.Goals as goal

pub returns : goal.returns
returns c = images
