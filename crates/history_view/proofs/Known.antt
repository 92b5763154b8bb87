-- What is known of a channel, taken out, changed and put back.
use Rattle.std.proofs.Common.{◌≡◌, List, OnOk}
use Rattle.std.specs.Prelude.{ℕ, Result, Ok, Err}
use Rattle.call_history.specs.declared.view.ChannelView.{ChannelView}
use Rattle.call_history.proofs.Viewed.{put_back}
use Rattle.history_view.specs.Views.{unknown, view_of, views_with}

-- where there is room to put it back
pub put_changed : {A E : Type 0} (result : Result A E) (change : ChannelView → ChannelView) (channel : List ℕ) (before between after : List ChannelView) (taken new : ChannelView)
    → taken ≡ view_of before channel
    → between ≡ views_with (λ v. unknown channel) channel before
    → new ≡ change taken → new.channel ≡ taken.channel
    → OnOk result (after ≡ views_with (λ v. new) new.channel between)
    → OnOk result (after ≡ views_with change channel before)
put_changed (Ok done) change channel before between after taken new is out made named into =
    put_back change channel before between after taken new is out made named into
put_changed (Err error) change channel before between after taken new is out made named into = tt
