use Rattle.std.proofs.Common.{◌≡◌, ap, sym, refl, ◌∙◌, subst, length, map as map_list, IsTrue, Ok, Err, Some, slice_get}
use Rattle.std.proofs.lemmas.Option.{slice_get_read, slice_get_past}
use Rattle.std.specs.Ordering.{nat_cmp}
use Rattle.std.specs.FinMap.{is_sorted}
use Rattle.dm_rows.specs.Places.{place_of}
use Rattle.dm_catalogue.specs.Sums.{by_offset, chunk_in}
use Rattle.dm_catalogue.proofs.Placing.{joined_order, found_at, begins_at, none_at}
use Rattle.dm_catalogue.proofs.catalogue.Catalogue.find.Goals as goal

pub place-requires : goal.place-requires
place-requires c =
    subst (λ cs. IsTrue (is_sorted nat_cmp (map_list by_offset cs))) (sym c.as_slice-chunks.ensures)
    (joined_order 0 c.in-Some.row.now.chunks c.in-Some.row.now.len (c.args.self.now.whole c.args.bfid.0 c.in-Some.row.now (sym c.in-Some.ensures)).joins)

pub returns-in_default-place-clause-none : goal.returns-in_default-place-clause-none
returns-in_default-place-clause-none c =
    let order = joined_order 0 c.in-Some.row.now.chunks c.in-Some.row.now.len (c.args.self.now.whole c.args.bfid.0 c.in-Some.row.now (sym c.in-Some.ensures)).joins in
    let at : place_of nat_cmp c.args.offset (map_list by_offset c.in-Some.row.now.chunks) ≡ Err c.in_default-place.field-0 =
    ap (λ cs. place_of nat_cmp c.args.offset (map_list by_offset cs)) (sym c.as_slice-chunks.ensures) ∙ sym c.place.ensures ∙ c.in_default-place.is in
    ap (chunk_in c.args.offset) (sym c.in-Some.ensures) ∙ none_at c.args.offset c.in-Some.row.now.chunks c.in_default-place.field-0 order at

pub returns-in-Some-get-clause-found : goal.returns-in-Some-get-clause-found
returns-in-Some-get-clause-found c =
    let at : place_of nat_cmp c.args.offset (map_list by_offset c.in-Some.row.now.chunks) ≡ Ok c.in-Ok.at =
    ap (λ cs. place_of nat_cmp c.args.offset (map_list by_offset cs)) (sym c.as_slice-chunks.ensures) ∙ sym c.place.ensures ∙ c.in-Ok.is in
    let there : slice_get c.in-Some.row.now.chunks c.in-Ok.at ≡ Some c.in-Some-get.chunk.now =
    ap (λ l. slice_get l c.in-Ok.at) (sym c.as_slice-chunks.ensures)
    ∙ slice_get_read c.as_slice-chunks.result.now (length c.as_slice-chunks.result.now) c.in-Ok.at c.in-Some-get.chunk.now refl c.in-Some-get.ensures.lookup.3.0 c.in-Some-get.ensures.lookup.1 in
    record {
      bitfile = c.in-Some.row.now;
      is = sym c.in-Some.ensures;
      there = there;
      begins = begins_at c.args.offset c.in-Some.row.now.chunks c.in-Ok.at c.in-Some-get.chunk.now at there;
      first = found_at c.args.offset c.in-Some.row.now.chunks c.in-Ok.at at ∙ there;
    }

pub returns-in-None-clause-none : goal.returns-in-None-clause-none
returns-in-None-clause-none c =
    let at : place_of nat_cmp c.args.offset (map_list by_offset c.in-Some.row.now.chunks) ≡ Ok c.in-Ok.at =
    ap (λ cs. place_of nat_cmp c.args.offset (map_list by_offset cs)) (sym c.as_slice-chunks.ensures) ∙ sym c.place.ensures ∙ c.in-Ok.is in
    ap (chunk_in c.args.offset) (sym c.in-Some.ensures)
    ∙ found_at c.args.offset c.in-Some.row.now.chunks c.in-Ok.at at
    ∙ ap (λ l. slice_get l c.in-Ok.at) (sym c.as_slice-chunks.ensures)
    ∙ slice_get_past c.as_slice-chunks.result.now c.in-Ok.at c.in-None.ensures.lookup.3
