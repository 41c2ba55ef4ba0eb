-- Gates that were visited over a database.
use Rattle.std.proofs.Common.{◌≡◌, ◌⊎◌, inl, inr, ℕ, ◌≤◌, Bool, true, false, List, [], ◌∷◌, ◌++◌, ◌∙◌, refl, sym, subst, arith, append-nil, true≢false}
use Rattle.std.specs.Prelude.{All, Contains, ⊤}
use Rattle.std.specs.Io.KnownBytes.{Appends}
use mathlib.Core.List.{IsPrefix}
use Rattle.ifdb_io.specs.Causes.{Rose, WritesShort}
use Rattle.ifdb_io.specs.declared.doors.SiteFault.{SiteFault}
use Rattle.ifdb_io.specs.declared.doors.SiteFault.TheVariants as refusal
use Rattle.ifdb_io.proofs.Behind.{all_then, short_then}
use Rattle.ifdb_io.specs.declared.outside.Sink as sink
use Rattle.ifdb_loop.specs.declared.gate.Gate as gate
use Rattle.ifdb_loop.specs.declared.gate_site.GateSite as site
use Rattle.ifdb_loop.specs.declared.port.Port as port
use Rattle.ifdb_loop.specs.Visits.{Visit}
use Rattle.ifdb_turn.specs.Histories.{AllRight}
use Rattle.ifdb_model.specs.Log.{Entry as LogEntry}
use Rattle.ifdb_history.specs.declared.entry.Entry.{Entry}
use Rattle.ifdb_history.specs.History.{IsRight}
use Rattle.ifdb_keyed.specs.Keys.{key_bytes}
use Rattle.ifdb_loop.specs.Dialogues.{Dialogue}
use Rattle.ifdb_session.specs.Behind.{work_in}
use Rattle.ifdb_session.specs.declared.counts.Counts.{Counts}
use Rattle.ifdb_session.specs.Records.{texts_of}
use Rattle.ifdb_session.specs.Starts.{start_of}
use Rattle.ifdb_hearer.specs.Hearers.{heard_dialogue}
use Rattle.ifdb_desk.specs.Kept.{IsKeptFor, WasTold}
use Rattle.ifdb_desk.specs.Overs.{IsOver}
use Rattle.ifdb_service.proofs.Links.{texts_front}
use Rattle.ifdb_service.specs.Summary.{listening_line}
use Rattle.ifdb_gates.specs.Served.{Run, IsRunIn, IsServed}
use Rattle.ifdb_gates.proofs.Later.{run_later}
use Rattle.ifdb_host.specs.Counting.{counts_text}
use Rattle.ifdb_host.specs.Gates.{AllEnded, Exchanges, GivesNone, OneFailed}
use Rattle.ifdb_host.specs.Hosted.{DiskRose, DiskSpan}
use Rattle.ifdb_host.specs.Serving.{IsKeptBehind, LeavesFronts, ServedHere, ServesOpened, Tells, VisitedAll, site_end}
use Rattle.ifdb_host.specs.declared.end.HostEnd.{HostEnd}
use Rattle.ifdb_host.specs.declared.end.HostEnd.TheVariants as ends
use Rattle.ifdb_host.specs.declared.plan.Plan.{Plan}
use Rattle.ifdb_host.proofs.AtGates.{all_ended, one_failed, served_wider}

-- ---- what was said of first texts of a history

module _ (first : List LogEntry) (h : List Entry) (IsKept : List (List ℕ) → Type 0) where
  -- it is said of these, if they are first texts
  abbrev IfFront : List (List ℕ) → Type 0
  IfFront texts = IsPrefix texts (texts_of first h) → IsKept texts

  -- what a session's replies were answered from are first texts
  front_kept : (n : ℕ) (bytes : List ℕ) → IsKeptFor first IfFront h n bytes → IsKeptFor first IsKept h n bytes
  front_kept n bytes kept before e begins so = by (kept before e begins so) where
    front : IsPrefix (texts_of first (before ++ e ∷ [])) (texts_of first h)
    front = subst (λ whole. IsPrefix (texts_of first (before ++ e ∷ [])) (texts_of first whole)) begins.1 (texts_front first (before ++ e ∷ []) begins.0)

    by : IfFront (texts_of first (before ++ e ∷ [])) ⊎ WasTold first before n (work_in e.kind) bytes → IsKept (texts_of first (before ++ e ∷ [])) ⊎ WasTold first before n (work_in e.kind) bytes
    by (inl is) = inl (is front)
    by (inr told) = inr told

  front_over : (n : ℕ) (d : Dialogue) → IsOver first IfFront h n d → IsOver first IsKept h n d
  front_over n d over = record {
    shut = over.shut;
    closed = over.closed;
    lines = over.lines;
    texts = over.texts;
    front = over.front;
    kept = front_kept n d.kept over.kept;
  }

  module _ {G P : Type 0} (ports : port.Ghosts P) (key : List ℕ) (limit : ℕ) (HasFailed : Type 0) (gates : gate.Ghosts G P) where
    front_served : (faults : ℕ) (v : Visit P) → IsServed ports key limit first IfFront HasFailed h faults v → IsServed ports key limit first IsKept HasFailed h faults v
    front_served faults v s = record {
      dialogue = s.dialogue;
      owed = s.owed;
      over = front_over v.number (heard_dialogue key s.dialogue) s.over;
      exchanged = s.exchanged;
      paid = s.paid;
      halted = s.halted;
    }

    front_run : (r : Run G P) → IsRunIn ports key limit first IfFront HasFailed gates h r → IsRunIn ports key limit first IsKept HasFailed gates h r
    front_run r run = record {
      back = run.back;
      none_out = run.none_out;
      served = λ j d lt. front_served (gates.faults r.after) _ (run.served j d lt);
      cause = run.cause;
    }

-- what was said of replies by what the keeper knows is said by what the disk has
pub all_wider : {G P : Type 0} (ports : port.Ghosts P) (key : List ℕ) (limit : ℕ) (first : List LogEntry) (IsKept StillKept : List (List ℕ) → Type 0) (HasFailed StillFailed : Type 0)
    (gates : gate.Ghosts G P) (h : List Entry) (runs : List (Run G P))
    → ((texts : List (List ℕ)) → IsPrefix texts (texts_of first h) → IsKept texts → StillKept texts) → (HasFailed → StillFailed)
    → AllRight (IsRight (start_of first)) h
    → All (IsRunIn ports key limit first IsKept HasFailed gates h) runs → All (IsRunIn ports key limit first StillKept StillFailed gates h) runs
all_wider ports key limit first IsKept StillKept HasFailed StillFailed gates h runs kept failed right served k d lt =
    front_run first h StillKept ports key limit StillFailed gates _
    (run_later ports key limit first IsKept (IfFront first h StillKept) HasFailed StillFailed (λ texts is front. kept texts front is) failed h h ([], append-nil h) right gates _ (served k d lt))

-- ---- how serving an opened database ended

-- it was done or the output failed, and so it ended in no other way
pub not_disk : (end : HostEnd) → (end ≡ ends.Done) ⊎ (end ≡ ends.WriteFault) → end ≡ ends.DiskFault → ⊥
not_disk end (inl done) e = let clash = sym done ∙ e in cc
not_disk end (inr cut) e = let clash = sym cut ∙ e in cc

pub not_site : (end : HostEnd) → (end ≡ ends.Done) ⊎ (end ≡ ends.WriteFault) → end ≡ ends.SiteFault → ⊥
not_site end (inl done) e = let clash = sym done ∙ e in cc
not_site end (inr cut) e = let clash = sym cut ∙ e in cc

pub not_memory : (end : HostEnd) → (end ≡ ends.Done) ⊎ (end ≡ ends.WriteFault) → end ≡ ends.OutOfMemory → ⊥
not_memory end (inl done) e = let clash = sym done ∙ e in cc
not_memory end (inr cut) e = let clash = sym cut ∙ e in cc

pub not_damaged : (end : HostEnd) → (end ≡ ends.Done) ⊎ (end ≡ ends.WriteFault) → (at : ℕ) → end ≡ ends.Damaged at → ⊥
not_damaged end (inl done) at e = let clash = sym done ∙ e in cc
not_damaged end (inr cut) at e = let clash = sym cut ∙ e in cc

pub not_other : (end : HostEnd) → (end ≡ ends.Done) ⊎ (end ≡ ends.WriteFault) → end ≡ ends.NotADatabase → ⊥
not_other end (inl done) e = let clash = sym done ∙ e in cc
not_other end (inr cut) e = let clash = sym cut ∙ e in cc

module _ {S G P W : Type 0} (sites : site.Ghosts S G P) (gates : gate.Ghosts G P) (ports : port.Ghosts P) (outputs : sink.Ghosts W)
    (first : List LogEntry) (plan : Plan) (before after : S) (output output' : W) (size : ℕ) (d : DiskSpan) where
  -- gates were visited over the database, and went back to the site
  pub served_here : (HasFailed StillFailed : Type 0) → (HasFailed → StillFailed) → (Ends : List (Run G P) → Type 0) (Wrote : List ℕ → Type 0) (given back : List G) (counts : Counts) → Exchanges sites plan before after given back
      → (v : VisitedAll ports (key_bytes plan.key) plan.limit first gates size d HasFailed given back counts) → Ends v.runs → Wrote (listening_line plan.port ++ counts_text counts)
      → ServedHere sites gates ports outputs first plan before after output output' size d StillFailed Ends Wrote
  served_here HasFailed StillFailed failed Ends Wrote given back counts exchanges v ended wrote = record {
    served = served_wider sites gates ports first (IsKeptBehind first size d) (IsKeptBehind first size d) HasFailed StillFailed (λ texts kept. kept) failed Ends Wrote plan before after (record {
      log = v.log;
      order = v.order;
      given = given;
      back = back;
      exchanged = exchanges;
      runs = v.runs;
      given_are = v.before;
      back_are = v.after;
      served = v.served;
      each = v.each;
      ends = ended;
      written = subst (λ z. Wrote (listening_line plan.port ++ counts_text z)) v.counted wrote;
    });
    fronts = v.fronts;
  }

-- a count that rose since later rose since earlier
rose_before : (a b c : ℕ) → a ≤ b → Rose b c → Rose a c
rose_before a b c le rose = omega (arith, le, rose)

module _ {S G P W : Type 0} (sites : site.Ghosts S G P) (gates : gate.Ghosts G P) (ports : port.Ghosts P) (outputs : sink.Ghosts W)
    (first : List LogEntry) (plan : Plan) (before after : S) (output : W) (size : ℕ) (d : DiskSpan) (site_later : sites.faults before ≤ sites.faults after) where
  -- the site gave no gates
  pub site_refused : (why : SiteFault) → (why ≡ refusal.Failed → Rose (sites.faults before) (sites.faults after)) → GivesNone sites plan before after → LeavesFronts first size d []
      → ServesOpened sites gates ports outputs first plan before after output output size d (site_end why)
  site_refused refusal.Failed rose gives fronts = record {
    done = λ e. cc;
    cut = λ e. cc;
    disk = λ e. cc;
    site = λ e. inl (rose refl, gives, refl, fronts);
    memory = λ e. cc;
    opened = λ at e. cc;
    titled = λ e. cc;
    output_later = omega arith;
    site_later = site_later;
  }
  site_refused refusal.OutOfMemory rose gives fronts = record {
    done = λ e. cc;
    cut = λ e. cc;
    disk = λ e. cc;
    site = λ e. cc;
    memory = λ e. (fronts, inr (inl gives, inl refl));
    opened = λ at e. cc;
    titled = λ e. cc;
    output_later = omega arith;
    site_later = site_later;
  }

  module _ (mid output' : W) (given back : List G) (counts : Counts) (exchanges : Exchanges sites plan before after given back)
      (line : Appends (outputs.written output) (outputs.written mid) (listening_line plan.port))
      (first_later : outputs.faults output ≤ outputs.faults mid) (later : outputs.faults mid ≤ outputs.faults output') where
    -- how a service that visited its gates ends, by whether the disk has failed, and whether all gates are at their end
    pub visited_so : (has_failed is_done : Bool) (end : HostEnd) → VisitedAll ports (key_bytes plan.key) plan.limit first gates size d (has_failed ≡ true) given back counts
        → (has_failed ≡ true → DiskRose d) → (is_done ≡ true → All (λ (g : G). gates.ended g ≡ true) back) → (is_done ≡ false → (g : G) × Contains back g × (gates.ended g ≡ false))
        → (has_failed ≡ true → end ≡ ends.DiskFault) → (has_failed ≡ false → is_done ≡ false → end ≡ ends.SiteFault)
        → ((has_failed ≡ true) ⊎ (is_done ≡ false) → output' ≡ mid)
        → (has_failed ≡ false → is_done ≡ true → Tells outputs mid output' (counts_text counts) end)
        → ServesOpened sites gates ports outputs first plan before after output output' size d end
    visited_so true is_done end v failed all one disk site still tells =
        let is = disk refl in
        let wrote : Appends (outputs.written output) (outputs.written output') (listening_line plan.port) =
        subst (λ w. Appends (outputs.written output) (outputs.written w) (listening_line plan.port)) (sym (still (inl refl))) line in
        record {
          done = λ e. let clash = sym is ∙ e in cc;
          cut = λ e. let clash = sym is ∙ e in cc;
          disk = λ e. (
            failed refl,
            served_here sites gates ports outputs first plan before after output output' size d (true ≡ true) (DiskRose d) failed (λ runs. ⊤)
                (λ bytes. Appends (outputs.written output) (outputs.written output') (listening_line plan.port)) given back counts exchanges v tt wrote,
          );
          site = λ e. let clash = sym is ∙ e in cc;
          memory = λ e. let clash = sym is ∙ e in cc;
          opened = λ at e. let clash = sym is ∙ e in cc;
          titled = λ e. let clash = sym is ∙ e in cc;
          output_later = omega (arith, first_later, later);
          site_later = site_later;
        }
    visited_so false false end v failed all one disk site still tells =
        let is = site refl refl in
        let held : false ≡ true → ⊥ = λ e. true≢false (sym e) in
        let wrote : Appends (outputs.written output) (outputs.written output') (listening_line plan.port) =
        subst (λ w. Appends (outputs.written output) (outputs.written w) (listening_line plan.port)) (sym (still (inr refl))) line in
        record {
          done = λ e. let clash = sym is ∙ e in cc;
          cut = λ e. let clash = sym is ∙ e in cc;
          disk = λ e. let clash = sym is ∙ e in cc;
          site = λ e. inr
              (served_here sites gates ports outputs first plan before after output output' size d (false ≡ true) ⊥ held (OneFailed gates)
              (λ bytes. Appends (outputs.written output) (outputs.written output') (listening_line plan.port)) given back counts exchanges v
              (one_failed gates ports (key_bytes plan.key) plan.limit first (IsKeptBehind first size d) (false ≡ true) v.log v.runs back v.after v.served held (one refl)) wrote);
          memory = λ e. let clash = sym is ∙ e in cc;
          opened = λ at e. let clash = sym is ∙ e in cc;
          titled = λ e. let clash = sym is ∙ e in cc;
          output_later = omega (arith, first_later, later);
          site_later = site_later;
        }
    visited_so false true end v failed all one disk site still tells =
        let t = tells refl refl in
        let held : false ≡ true → ⊥ = λ e. true≢false (sym e) in
        let ended : AllEnded gates v.runs = all_ended gates v.runs back v.after (all refl) in
        record {
          done = λ e.
              served_here sites gates ports outputs first plan before after output output' size d (false ≡ true) ⊥ held (AllEnded gates)
              (Appends (outputs.written output) (outputs.written output')) given back counts exchanges v ended (all_then _ _ _ (listening_line plan.port) (counts_text counts) line (t.all e));
          cut = λ e. (
            rose_before (outputs.faults output) (outputs.faults mid) (outputs.faults output') first_later (t.cause e),
            inr (served_here sites gates ports outputs first plan before after output output' size d (false ≡ true) ⊥ held (AllEnded gates)
                (WritesShort (outputs.written output) (outputs.written output')) given back counts exchanges v ended (short_then _ _ _ (listening_line plan.port) (counts_text counts) line (t.short e))),
          );
          disk = λ e. absurd (not_disk end t.how e);
          site = λ e. absurd (not_site end t.how e);
          memory = λ e. absurd (not_memory end t.how e);
          opened = λ at e. absurd (not_damaged end t.how at e);
          titled = λ e. absurd (not_other end t.how e);
          output_later = omega (arith, first_later, later);
          site_later = site_later;
        }
