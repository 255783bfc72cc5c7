-- `chosen::choose_whole`: an empty map closes nothing. Assumes nothing.
use Rattle.network_calls.proofs.ChoiceLaws.{whole_values, whole_path, whole_work}
use Rattle.network_calls.proofs.chosen.choose_whole.Goals as goal

pub returns : goal.returns
returns c =
    record { result_value = whole_values c.args.network.now.image.now c.args.r c.args.start c.args.goal c.args.wanted c.choose_left.ensures.result_value; path_after = whole_path c.args.network.now.image.now c.args.r c.args.start c.args.goal c.args.wanted c.args.path.now c.choose_left.ensures.path_after; work_after = whole_work c.args.network.now.image.now c.args.r c.args.start c.args.goal c.args.wanted c.args.work.now c.choose_left.ensures.work_after }
