-- A record of the daemon that lands keeps open requests and the recalls of workers.
use Rattle.std.proofs.Common.{◌≡◌, ℕ, Some, ap, ◌∙◌, subst}
use Rattle.std.specs.FinMap as map
use Rattle.dm_base.specs.declared.identifier.Bfid.{Bfid}
use Rattle.dm_tables.specs.Rows.{EachRow}
use Rattle.dm_durable.specs.declared.daemon.DaemonRecord.{DaemonRecord}
use Rattle.dm_durable.specs.declared.daemon.DaemonTables.{DaemonTables}
use Rattle.dm_durable.specs.declared.daemon.Entry.{Entry}
use Rattle.dm_durable.specs.Tables.{ByNumber}
use Rattle.dm_durable.specs.Daemon.{after_record}
use Rattle.dm_model.specs.DaemonShare.{requests_after_step}
use Rattle.dm_model.specs.Effects.{history_after_step}
use Rattle.dm_model.specs.Files.{asked_by}
use Rattle.dm_model.specs.declared.state.Daemon.{Daemon}
use Rattle.dm_model.specs.declared.state.History.{History}
use Rattle.dm_model.specs.declared.state.OpenRequest.{OpenRequest}
use Rattle.dm_model.specs.declared.state.Recall.{Recall}
use Rattle.dm_model.specs.declared.state.Side.{Side}
use Rattle.dm_model.specs.declared.state.Worker.{Worker}
use Rattle.dm_invariant.specs.Doubts.{MayLand}
use Rattle.dm_invariant.specs.Files.{FilesKept}
use Rattle.dm_invariant.specs.Requests.{RequestEntry, RequestsKept, RecallKept, RecallsKept}
use Rattle.dm_landing.proofs.EntriesGone.{FreshEntry}
use Rattle.dm_landing.proofs.EntriesLanded.{step_goes, contents_onward}
use Rattle.dm_landing.proofs.Fates.{EntriesGo}
use Rattle.dm_landing.proofs.FatesRequests.{request_go, asked_go, content_go}
use Rattle.dm_landing.proofs.FilesWith.{NamedIn}
use Rattle.dm_landing.proofs.RequestsLanded.{was_request, is_request, after_step_live}

module _ (d : Daemon) (h : History) (sides : ByNumber Side) (r : DaemonRecord) (files : FilesKept d.tables h.contents d.cap)
    (may : MayLand d.tables d.requests h.contents d.cap sides r) where
  abbrev New : DaemonTables
  New = after_record d.tables r

  abbrev IsNew : ℕ → Entry → Type 0
  IsNew = FreshEntry d.tables.site d.tables.counter r.time.0 h.contents sides

  go : EntriesGo (NamedIn New.inodes) sides d.requests r.time.0 d.tables.age IsNew d.tables.entries New.entries
  go = step_goes d.tables h.contents d.cap sides d.requests r.time.0 files may.follow.time r.step may.follow.step may.needs

  entry_later : (k : ℕ) (q : OpenRequest) → EachRow d.requests (λ k q. RequestEntry d.tables.entries q) → map.get (requests_after_step d r.step) k ≡ Some q
      → RequestEntry New.entries q
  entry_later k q each is =
      let w = was_request d r.step k q is in
      let had = each k (record q { found = w.found }) w.is in
      let now = request_go (NamedIn New.inodes) sides d.requests r.time.0 d.tables.age IsNew d.tables.entries New.entries go k (record q { found = w.found }) w.is had in
      record { entry = now.entry; is = now.is; lasting = now.lasting; whole = now.whole }

  -- requests are kept
  pub requests_landed : RequestsKept d.requests d.next_request d.tables.inodes d.tables.entries h.contents
      → RequestsKept (requests_after_step d r.step) d.next_request New.inodes New.entries (history_after_step d r.step h).contents
  requests_landed kept =
      let live = after_step_live d h.contents sides r.time r.step (λ n i is. (files.state.inodes n i is).number.most) may.follow.step may.needs
      (record { puts = kept.puts; recalls = kept.recalls }) in
      record {
        numbers = λ k q is. let w = was_request d r.step k q is in kept.numbers k (record q { found = w.found }) w.is;
        entry = λ k q is. entry_later k q kept.entry is;
        content = λ k q is.
            let w = was_request d r.step k q is in
            content_go (NamedIn New.inodes) sides d.requests r.time.0 d.tables.age IsNew d.tables.entries New.entries h.contents
            (history_after_step d r.step h).contents q.bfid.0 go (λ b f fresh. fresh.none) (contents_onward d h sides r files may)
            (kept.content k (record q { found = w.found }) w.is);
        puts = live.puts;
        recalls = live.recalls;
        puts_apart = λ k l q s is at put other same.
            let w = was_request d r.step k q is in
            let x = was_request d r.step l s at in
            kept.puts_apart k l (record q { found = w.found }) (record s { found = x.found }) w.is x.is put other same;
      }

  recall_later : (k : ℕ) (recall : Recall) → EachRow d.requests (λ k q. RequestEntry d.tables.entries q)
      → RecallKept d.requests d.tables.entries h.contents k recall
      → RecallKept (requests_after_step d r.step) New.entries (history_after_step d r.step h).contents k recall
  recall_later k recall entries kept =
      let now = is_request d r.step k kept.request kept.is in
      let bitfile : kept.request.bfid.0 ≡ recall.bfid.0 = ap (λ (b : Bfid). b.0) kept.same in
      let asks = asked_go (NamedIn New.inodes) sides d.requests r.time.0 d.tables.age IsNew d.tables.entries New.entries go k kept.request kept.is
      (entries k kept.request kept.is) in
      record {
        request = record kept.request { found = now.found };
        is = now.is;
        kind = kept.kind;
        same = kept.same;
        bytes = kept.bytes;
        content = contents_onward d h sides r files may recall.bfid.0 kept.bytes kept.content;
        len = kept.len;
        asked = kept.asked ∙ subst (λ b. asked_by (map.get d.tables.entries b) ≡ asked_by (map.get New.entries b)) bitfile asks;
        reads = kept.reads;
      }

  -- and recalls
  pub recalls_landed : (workers : ByNumber Worker) → RequestsKept d.requests d.next_request d.tables.inodes d.tables.entries h.contents
      → RecallsKept workers d.requests d.tables.entries h.contents
      → RecallsKept workers (requests_after_step d r.step) New.entries (history_after_step d r.step h).contents
  recalls_landed workers requests kept = record {
    kept = λ w x is k recall has. recall_later k recall requests.entry (kept.kept w x is k recall has);
    apart = kept.apart;
  }
