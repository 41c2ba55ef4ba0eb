use Rattle.ifdb_service.proofs.laws.laws_hold.Goals as goal

pub returns : goal.returns
returns g c = record {
  itself = g.met.S.Settles.goes_itself;
  further = g.met.S.Settles.goes_further;
  kept = g.met.S.Settles.stays_kept;
  failed = g.met.S.Settles.stays_failed;
}
