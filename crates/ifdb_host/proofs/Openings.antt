-- From a disk as it was given to the database that was opened over it.
use Rattle.std.proofs.Common.{◌≡◌, inl, inr, ℕ, List, [], ◌++◌, refl, sym, subst, arith, append-nil}
use Rattle.std.specs.Prelude.{Option, Some, None}
use Rattle.ifdb_io.specs.Causes.{Rose}
use Rattle.ifdb_io.specs.declared.outside.Sink as sink
use Rattle.ifdb_loop.specs.declared.gate.Gate as gate
use Rattle.ifdb_loop.specs.declared.gate_site.GateSite as site
use Rattle.ifdb_loop.specs.declared.port.Port as port
use Rattle.ifdb_disk.specs.Images.{IsImage}
use Rattle.ifdb_disk.specs.Clock.{Clock, Leaves, Now}
use Rattle.ifdb_disk.proofs.Moments.{since_here}
use Rattle.ifdb_disk.proofs.Store.{settled_only}
use Rattle.ifdb_log.specs.declared.fault.LogFault.{LogFault}
use Rattle.ifdb_log.specs.declared.fault.LogFault.TheVariants as fault
use Rattle.ifdb_log.specs.Title.{IsOther, IsLog, IsSettled}
use Rattle.ifdb_model.specs.Log.{Entry as LogEntry}
use Rattle.ifdb_history.specs.declared.entry.Entry.{Entry}
use Rattle.ifdb_gates.specs.Served.{Run}
use Rattle.ifdb_reopen.specs.Causes.{IsCaused}
use Rattle.ifdb_reopen.specs.Files.{IsFileOf, IsFileOn, IsNewOn, IsOldOrBare, IsTold, IsUnopened, ShowsLog}
use Rattle.ifdb_reopen.proofs.Unopened.{bare_unopened, file_behind, log_not_new, new_behind, shown_on, told_behind, unopened_before, IsTitledFrom}
use Rattle.ifdb_host.specs.Fronts.{HasFrontOf, IsKeptSince, LeavesFrom}
use Rattle.ifdb_host.specs.Hosted.{end_of, DiskSpan, HostsSite, IsHosted, IsKeptOn}
use Rattle.ifdb_host.specs.Serving.{IsKeptBehind, LeavesFronts, ServedHere, ServesOpened}
use Rattle.ifdb_host.specs.declared.end.HostEnd.{HostEnd}
use Rattle.ifdb_host.specs.declared.end.HostEnd.TheVariants as ends
use Rattle.ifdb_host.specs.declared.plan.Plan.{Plan}
use Rattle.ifdb_host.proofs.AtGates.{served_wider}

abbrev pub kept_before : (t u v : Option Clock) (h : List Entry) → IsTitledFrom t u → IsKeptOn u v h → IsKeptOn t v h
kept_before t u v h k kept = record {
  first = kept.first;
  texts = kept.texts;
  opened = kept.opened;
  held = λ xs log file. kept.held xs log (file_behind t u xs log k file);
  fresh = λ new. kept.held [] [] (new_behind t u k new);
  opening = unopened_before t u kept.opened k kept.opening;
  shows = λ told. kept.shows (told_behind t u k told);
  fronts = λ told. kept.fronts (told_behind t u k told);
}

module _ {S G P : Type 0} (sites : site.Ghosts S G P) (gates : gate.Ghosts G P) (ports : port.Ghosts P) where
  hosted_before : (HasFailed HasFailed' : Type 0) → (HasFailed → HasFailed') → (Ends : List (Run G P) → Type 0) (Wrote : List ℕ → Type 0) (plan : Plan) (before after : S) (t u v : Option Clock) (m n o : ℕ) → IsTitledFrom t u
      → IsHosted sites gates ports HasFailed Ends Wrote plan before after (record { before = u; after = v; faults = n; faults_after = o })
      → IsHosted sites gates ports HasFailed' Ends Wrote plan before after (record { before = t; after = v; faults = m; faults_after = o })
  hosted_before HasFailed HasFailed' failed Ends Wrote plan before after t u v m n o k h = record {
    log = h.log;
    kept = kept_before t u v h.log k h.kept;
    served = served_wider sites gates ports h.kept.first (λ texts. IsTold u → IsKeptSince h.kept.texts v texts) (λ texts. IsTold t → IsKeptSince h.kept.texts v texts) HasFailed HasFailed'
        (λ texts kept told. kept (told_behind t u k told)) failed Ends Wrote plan before after h.served;
    same = h.same;
  }

  -- however a service ended over the disk that was given its title, so it did over the disk as it was given
  pub hosts_before : {W : Type 0} (outputs : sink.Ghosts W) (plan : Plan) (before after : S) (output output' : W) (t u v : Option Clock) (m n o : ℕ) (end : HostEnd) → IsTitledFrom t u → n ≡ m
      → HostsSite sites gates ports outputs plan before after output output' (record { before = u; after = v; faults = n; faults_after = o }) end
      → (end ≡ ends.NotADatabase → ⊥)
      → HostsSite sites gates ports outputs plan before after output output' (record { before = t; after = v; faults = m; faults_after = o }) end
  hosts_before outputs plan before after output output' t u v m n o end k calm h titled = record {
    done = λ e. hosted_before ⊥ ⊥ (λ none. none) _ _ plan before after t u v m n o k (h.done e);
    cut = λ e. (
      (h.cut e).0,
      elim (h.cut e).1 [
        | inl idle ↦ inl (idle.0, idle.1, kept_before t u v [] k idle.2)
        | inr hosted ↦ inr (hosted_before ⊥ ⊥ (λ none. none) _ _ plan before after t u v m n o k hosted)
      ],
    );
    disk = λ e. (
      subst (λ f. Rose f o) calm (h.disk e).0,
      elim (h.disk e).1 [
        | inl none ↦ inl (none.0, unopened_before t u v k none.1)
        | inr hosted ↦ inr (hosted_before (Rose n o) (Rose m o) (subst (λ f. Rose f o) calm) _ _ plan before after t u v m n o k hosted)
      ],
    );
    site = λ e. elim (h.site e) [
      | inl unserved ↦ inl (unserved.0, unserved.1, unserved.2, kept_before t u v [] k unserved.3)
      | inr hosted ↦ inr (hosted_before ⊥ ⊥ (λ none. none) _ _ plan before after t u v m n o k hosted)
    ];
    memory = λ e. let x = h.memory e in (
      elim x.0 [
        | inl unopened ↦ inl (unopened_before t u v k unopened)
        | inr idle ↦ inr (kept_before t u v [] k idle)
      ],
      x.1,
    );
    damaged = λ at e. let x = h.damaged at e in (x.0, unopened_before t u v k x.1, λ texts log file. x.2 texts log (file_behind t u texts log k file));
    other = λ e. absurd (titled e);
    output_later = h.output_later;
    site_later = h.site_later;
  }

-- ---- a disk over which a database was made again

-- what is known of it, of its size of the title, and of the log that it goes on from
pub record IsReopenedFrom (t u : Option Clock) (size : ℕ) (first : List LogEntry) : Type 0 where
  pub present : Now t (λ s. IsImage s s.bytes)
  pub titled : IsSettled IsLog t
  pub shows : IsTold t → (size ≡ 16) × ((texts : List (List ℕ)) × ShowsLog u texts first)
  pub same : (texts : List (List ℕ)) (log : List LogEntry) → ShowsLog t texts log → first ≡ log
  pub moments : Leaves t u (IsOldOrBare t)

module _ (t u v : Option Clock) (size : ℕ) (first : List LogEntry) (m n : ℕ) (k : IsReopenedFrom t u size first) where
  -- the texts that the disk showed
  abbrev pub texts_by : (t : Option Clock) → (IsTold t → (size ≡ 16) × ((texts : List (List ℕ)) × ShowsLog u texts first)) → List (List ℕ)
  texts_by None shows = []
  texts_by (Some c) shows = (shows tt).1.0

  texts_shown : (t : Option Clock) (shows : IsTold t → (size ≡ 16) × ((texts : List (List ℕ)) × ShowsLog u texts first)) → IsTold t → (size ≡ 16) × ShowsLog u (texts_by t shows) first
  texts_shown None shows told = absurd told
  texts_shown (Some c) shows told = ((shows tt).0, (shows tt).1.1)

  pub here : IsTold t → (size ≡ 16) × ShowsLog u (texts_by t k.shows) first
  here = texts_shown t k.shows

  pub not_new : (t : Option Clock) → IsSettled IsLog t → IsNewOn t → ⊥
  not_new None titled new = absurd new
  not_new (Some c) titled new = log_not_new c.now.bytes titled.1 new

  abbrev d : DiskSpan
  d = record { before = u; after = v; faults = n; faults_after = m }

  abbrev pub kept_opened : (h : List Entry) → LeavesFronts first size d h → IsKeptOn t v h
  kept_opened h fronts = record {
    first = first;
    texts = texts_by t k.shows;
    opened = u;
    held = λ xs log file. k.same xs log (shown_on t xs log k.titled file);
    fresh = λ new. absurd (not_new t k.titled new);
    opening = bare_unopened t u k.present k.titled k.moments;
    shows = λ told. (here told).1;
    fronts = λ told. fronts (texts_by t k.shows) (here told).0 (here told).1;
  }

  module _ {S G P W : Type 0} (sites : site.Ghosts S G P) (gates : gate.Ghosts G P) (ports : port.Ghosts P) (outputs : sink.Ghosts W)
      (plan : Plan) (before after : S) (output output' : W) (l : ℕ) (calm : n ≡ l) where
    abbrev whole : DiskSpan
    whole = record { before = t; after = v; faults = l; faults_after = m }

    hosted_opened : (HasFailed HasFailed' : Type 0) → (HasFailed → HasFailed') → (Ends : List (Run G P) → Type 0) (Wrote : List ℕ → Type 0) → ServedHere sites gates ports outputs first plan before after output output' size d HasFailed Ends Wrote
        → IsHosted sites gates ports HasFailed' Ends Wrote plan before after whole
    hosted_opened HasFailed HasFailed' failed Ends Wrote h = record {
      log = h.served.log;
      kept = kept_opened h.served.log h.fronts;
      served = served_wider sites gates ports first (IsKeptBehind first size d) (λ texts. IsTold t → IsKeptSince (texts_by t k.shows) v texts) HasFailed HasFailed'
          (λ texts kept told. kept (texts_by t k.shows) (here told).0 (here told).1) failed Ends Wrote plan before after h.served;
      same = refl;
    }

    -- however serving the opened database ended, so the service of the site did
    pub hosts_opened : (end : HostEnd) → ServesOpened sites gates ports outputs first plan before after output output' size d end
        → HostsSite sites gates ports outputs plan before after output output' whole end
    hosts_opened end h = record {
      done = λ e. hosted_opened ⊥ ⊥ (λ none. none) _ _ (h.done e);
      cut = λ e. (
        (h.cut e).0,
        elim (h.cut e).1 [
          | inl idle ↦ inl (idle.0, idle.1, kept_opened [] idle.2)
          | inr served ↦ inr (hosted_opened ⊥ ⊥ (λ none. none) _ _ served)
        ],
      );
      disk = λ e. (subst (λ f. Rose f m) calm (h.disk e).0, inr (hosted_opened (Rose n m) (Rose l m) (subst (λ f. Rose f m) calm) _ _ (h.disk e).1));
      site = λ e. elim (h.site e) [
        | inl unserved ↦ inl (unserved.0, unserved.1, unserved.2, kept_opened [] unserved.3)
        | inr served ↦ inr (hosted_opened ⊥ ⊥ (λ none. none) _ _ served)
      ];
      memory = λ e. let x = h.memory e in (inr (kept_opened [] x.0), x.1);
      damaged = λ at e. absurd (h.opened at e);
      other = λ e. absurd (h.titled e);
      output_later = h.output_later;
      site_later = h.site_later;
    }

-- a disk that shows a log leaves the file of it, and of nothing that was added
pub shown_leaves : (t : Option Clock) (texts : List (List ℕ)) (first : List LogEntry) → ShowsLog t texts first → LeavesFrom t t (HasFrontOf texts first [] 0)
shown_leaves None texts first shows = absurd shows
shown_leaves (Some c) texts first shows = (
  (λ image left. here image (settled_only c.now.bytes image (subst (λ s. IsImage s image) shows.0 left))),
  since_here (Some c) (λ s. (image : List ℕ) → IsImage s image → HasFrontOf texts first [] 0 image),
)
  where
    here : (image : List ℕ) → image ≡ c.now.bytes → HasFrontOf texts first [] 0 image
    here image same = record {
      n = 0;
      enough = omega arith;
      there = omega arith;
      file = subst (IsFileOf (texts ++ []) (first ++ [])) (sym same)
          (subst (λ (z : List (List ℕ) × List LogEntry). IsFileOf z.0 z.1 c.now.bytes) (λ i. (sym (append-nil texts) i, sym (append-nil first) i)) shows.1);
    }

-- ---- a start that was refused

module _ {S G P W : Type 0} (sites : site.Ghosts S G P) (gates : gate.Ghosts G P) (ports : port.Ghosts P) (outputs : sink.Ghosts W)
    (plan : Plan) (at_site : S) (output : W) (t u : Option Clock) (m n : ℕ) where
  pub refused_so : (why : LogFault) → IsCaused m n why → IsUnopened t u → (why ≡ fault.NotALog → (u ≡ t) × Now t (λ shown. IsOther shown.bytes))
      → ((at : ℕ) → why ≡ fault.Damaged at → (texts : List (List ℕ)) (log : List LogEntry) → IsFileOn t texts log → ⊥)
      → HostsSite sites gates ports outputs plan at_site at_site output output (record { before = t; after = u; faults = m; faults_after = n }) (end_of why)
  refused_so fault.Disk cause unopened other damaged = record {
    done = λ e. cc;
    cut = λ e. cc;
    disk = λ e. (cause.1, inl ((refl, refl), unopened));
    site = λ e. cc;
    memory = λ e. cc;
    damaged = λ at e. cc;
    other = λ e. cc;
    output_later = omega arith;
    site_later = omega arith;
  }
  refused_so fault.NotALog cause unopened other damaged = record {
    done = λ e. cc;
    cut = λ e. cc;
    disk = λ e. cc;
    site = λ e. cc;
    memory = λ e. cc;
    damaged = λ at e. cc;
    other = λ e. ((refl, refl), (other refl).0, (other refl).1);
    output_later = omega arith;
    site_later = omega arith;
  }
  refused_so (fault.Damaged place) cause unopened other damaged = record {
    done = λ e. cc;
    cut = λ e. cc;
    disk = λ e. cc;
    site = λ e. cc;
    memory = λ e. cc;
    damaged = λ at e. ((refl, refl), unopened, damaged place refl);
    other = λ e. cc;
    output_later = omega arith;
    site_later = omega arith;
  }
  refused_so fault.OutOfMemory cause unopened other damaged = record {
    done = λ e. cc;
    cut = λ e. cc;
    disk = λ e. cc;
    site = λ e. cc;
    memory = λ e. (inl unopened, inl (refl, refl));
    damaged = λ at e. cc;
    other = λ e. cc;
    output_later = omega arith;
    site_later = omega arith;
  }
