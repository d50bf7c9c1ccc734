-- The clauses of `laws::turns_rule_out` that the search can't prove.
use Rattle.iol_port.proofs.TurnsRuleOut.{good_link_stays, nothing_is_no_turn, only_misses_unreport}
use Rattle.iol_port.proofs.TurnOrders.{events_are_read, none_is_swallowed, asleep_answers_nothing, images_have_length, starts_by_page, wrong_pages_stay_unread}
use Rattle.iol_port.proofs.laws.turns_rule_out.Goals as goal

pub returns : goal.returns
returns c = record {
  stays = good_link_stays;
  nothing = nothing_is_no_turn;
  events = events_are_read;
  frozen = none_is_swallowed;
  asleep = asleep_answers_nothing;
  repeat = only_misses_unreport;
  images = images_have_length;
  pages = starts_by_page;
  wrong = wrong_pages_stay_unread;
}
