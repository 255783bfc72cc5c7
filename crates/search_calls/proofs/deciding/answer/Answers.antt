-- `deciding::answer`: the run was cut, or the path that it found is measured and written. Assumes nothing.
use native.Mathlib.Omega.{arith}
use mathlib.Core.Path.{sym, subst}
use lib.Seq.{length-take-le}
use Rattle.terms.specs.Paths.{OpenPath}
use Rattle.image.specs.Layout.{net_of}
use Rattle.image.proofs.OutcomeLaws.{outcome_fault, after_fault}
use Rattle.loading.proofs.DecodeLaws.{few_nodes}
use Rattle.search_calls.proofs.AnswerLaws.{found_in, cut_many, values_are, written_is}
use Rattle.search_calls.proofs.deciding.answer.Goals as goal

pub search_image-run-requires : goal.search_image-run-requires
search_image-run-requires c =
    record { reached = c.requires.reached; best_long = c.requires.best_long }

pub returns-in_default : goal.returns-in_default
returns-in_default c =
    let e = cut_many c.args.network.now.image.now c.args.task.start c.args.task.goal c.args.task.limit c.search_image-run.ensures c.in_default.is in
    record { result_value = sym (outcome_fault _ e); path_after = sym (after_fault _ _ e) }

pub measure_path-found-requires : goal.measure_path-found-requires
measure_path-found-requires c =
    let told = found_in c.args.network.now c.args.task c.requires.reached c.search_image-run.ensures c.in-Ok.is in
    rw c.from-start.ensures (record { common = c.requires.common; bests_long = c.requires.bests_long; ends = c.requires.reached.ends; path = subst (OpenPath (net_of c.args.network.now.image.now) c.args.task.start c.args.task.goal) (sym told.path_is) told.is_open })

pub write_path-requires : goal.write_path-requires
write_path-requires c =
    let told = found_in c.args.network.now c.args.task c.requires.reached c.search_image-run.ensures c.in-Ok.is in
    (told.fits, omega (arith, told.short, c.args.network.now.accepted.nodes_are, c.requires.path_long))

pub returns : goal.returns
returns c =
    let told = found_in c.args.network.now c.args.task c.requires.reached c.search_image-run.ensures c.in-Ok.is in
    record { result_value = values_are told (rw c.from-start.ensures at c.measure_path-found.ensures.0) (rw c.from-start.ensures at c.measure_path-found.ensures.1); path_after = written_is told c.args.path.now c.write_path.ensures }

pub slice_bounds-route-end : goal.slice_bounds-route-end
slice_bounds-route-end c =
    let told = found_in c.args.network.now c.args.task c.requires.reached c.search_image-run.ensures c.in-Ok.is in
    told.fits

pub slice_bounds-route-end-2 : goal.slice_bounds-route-end-2
slice_bounds-route-end-2 c =
    let told = found_in c.args.network.now c.args.task c.requires.reached c.search_image-run.ensures c.in-Ok.is in
    sym (length-take-le _ _ told.fits)

pub overflow_cast-result : goal.overflow_cast-result
overflow_cast-result c =
    let told = found_in c.args.network.now c.args.task c.requires.reached c.search_image-run.ensures c.in-Ok.is in
    omega (arith, told.short, c.args.network.now.accepted.nodes_are, few_nodes c.args.network.now.accepted)

pub overflow_cast-result-2 : goal.overflow_cast-result-2
overflow_cast-result-2 c =
    let told = found_in c.args.network.now c.args.task c.requires.reached c.search_image-run.ensures c.in-Ok.is in
    omega (arith, told.few)
