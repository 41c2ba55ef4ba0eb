use Rattle.std.proofs.Common.{◌≡◌, ◌∷◌}
use Rattle.ifdb_disk.proofs.Moments.{leaves_on}
use Rattle.ifdb_log.specs.Title.{IsNewOrTitle, IsSettled, IsShut, title_rest}
use Rattle.ifdb_log.proofs.Titles.{open_torn, shut_new, shut_title, shut_torn, stored_settled, torn_leaves}
use Rattle.ifdb_log.proofs.title.make.Goals as goal

pub returns-in_err-write_through-clause-moments : goal.returns-in_err-write_through-clause-moments
returns-in_err-write_through-clause-moments g c =
    let t = g.D.Disk.tells c.args.disk.now in
    let first = g.D.Disk.tells c.shut.new.disk in
    let second = g.D.Disk.tells c.write_through.new.disk in
    leaves_on t first second IsNewOrTitle c.shut.ensures.moments
    (torn_leaves first second 1 15 IsShut IsNewOrTitle c.in_ok-shut.ensures.shut (λ b image shut torn. shut_new image (shut_torn b image shut torn)) c.write_through.ensures.moments)

pub returns-in_err-write_through-2-clause-moments : goal.returns-in_err-write_through-2-clause-moments
returns-in_err-write_through-2-clause-moments g c =
    let t = g.D.Disk.tells c.args.disk.now in
    let first = g.D.Disk.tells c.shut.new.disk in
    let second = g.D.Disk.tells c.write_through.new.disk in
    let third = g.D.Disk.tells c.write_through-2.new.disk in
    let begun : IsSettled (λ b. b ≡ 0 ∷ title_rest) second = stored_settled first second 1 title_rest IsShut (λ b. b ≡ 0 ∷ title_rest) c.in_ok-shut.ensures.shut shut_title c.in_ok-write_through.ensures.ok in
    leaves_on t first third IsNewOrTitle c.shut.ensures.moments
    (leaves_on first second third IsNewOrTitle
    (torn_leaves first second 1 15 IsShut IsNewOrTitle c.in_ok-shut.ensures.shut (λ b image shut torn. shut_new image (shut_torn b image shut torn)) c.write_through.ensures.moments)
    (torn_leaves second third 0 1 (λ b. b ≡ 0 ∷ title_rest) IsNewOrTitle begun open_torn c.write_through-2.ensures.moments))

pub returns-clause-moments : goal.returns-clause-moments
returns-clause-moments g c =
    let t = g.D.Disk.tells c.args.disk.now in
    let first = g.D.Disk.tells c.shut.new.disk in
    let second = g.D.Disk.tells c.write_through.new.disk in
    let third = g.D.Disk.tells c.write_through-2.new.disk in
    let begun : IsSettled (λ b. b ≡ 0 ∷ title_rest) second = stored_settled first second 1 title_rest IsShut (λ b. b ≡ 0 ∷ title_rest) c.in_ok-shut.ensures.shut shut_title c.in_ok-write_through.ensures.ok in
    leaves_on t first third IsNewOrTitle c.shut.ensures.moments
    (leaves_on first second third IsNewOrTitle
    (torn_leaves first second 1 15 IsShut IsNewOrTitle c.in_ok-shut.ensures.shut (λ b image shut torn. shut_new image (shut_torn b image shut torn)) c.write_through.ensures.moments)
    (torn_leaves second third 0 1 (λ b. b ≡ 0 ∷ title_rest) IsNewOrTitle begun open_torn c.write_through-2.ensures.moments))
