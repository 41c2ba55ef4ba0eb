use Rattle.std.proofs.Common.{ℕ, List, Option, inl, subst}
use Rattle.ifdb_keyed.specs.declared.admin_key.AdminKey.{AdminKey}
use Rattle.ifdb_top.specs.Host.{ReadsKey}
use Rattle.ifdb_top.proofs.hosting.host_in_file.Goals as goal

pub returns-in-Ok-Some-clause-hosted : goal.returns-in-Ok-Some-clause-hosted
returns-in-Ok-Some-clause-hosted g c =
    let named = subst (λ (name : List ℕ). ReadsKey g.K.Shelf g.K.Disk.Disk name c.args.secrets.now c.key_in.new.secrets c.in-Ok-Some.field-0)
    c.as_str.ensures.name c.in-Ok-Some.ensures.read in
    let read = subst (λ (key : Option AdminKey). ReadsKey g.K.Shelf g.K.Disk.Disk c.args.hosting.now.key_file c.args.secrets.now c.key_in.new.secrets key)
    c.in-Ok-Some.field-0-is named in
    inl (c.in-Ok-Some.key, read, c.host_by_key.ensures.hosted)
