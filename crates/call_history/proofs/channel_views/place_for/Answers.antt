use Rattle.std.proofs.Common.{◌≡◌, List, [], ◌∷◌, ◌++◌, Some, None, length, set, get_or, sym, ◌∙◌, ap, arith}
use Rattle.std.specs.List.{position}
use Rattle.call_history.specs.Viewed.{is_of, view_of}
use Rattle.call_history.specs.declared.view.ChannelView.{ChannelView}
use Rattle.call_history.proofs.Viewed.{view_there, view_added, view_named, changed_there, changed_added}
use Rattle.call_history.proofs.channel_views.place_for.Goals as goal

pub returns-in-Some-clause-named : goal.returns-in-Some-clause-named
returns-in-Some-clause-named c other =
    let at : position (is_of c.args.channel.now) c.args.views.now.items ≡ Some c.in-Some.place =
    sym (c.requires c.args.channel.now) ∙ sym c.place_in.ensures ∙ c.in-Some.is in
    ap (λ (v : ChannelView). v.channel) (view_there c.args.channel.now c.args.views.now.items c.in-Some.place other at)
    ∙ view_named c.args.views.now.items c.args.channel.now

pub returns-in-Some-clause-view : goal.returns-in-Some-clause-view
returns-in-Some-clause-view c other =
    let at : position (is_of c.args.channel.now) c.args.views.now.items ≡ Some c.in-Some.place =
    sym (c.requires c.args.channel.now) ∙ sym c.place_in.ensures ∙ c.in-Some.is in
    view_there c.args.channel.now c.args.views.now.items c.in-Some.place other at

pub returns-in-Some-clause-change : goal.returns-in-Some-clause-change
returns-in-Some-clause-change c change =
    let at : position (is_of c.args.channel.now) c.args.views.now.items ≡ Some c.in-Some.place =
    sym (c.requires c.args.channel.now) ∙ sym c.place_in.ensures ∙ c.in-Some.is in
    changed_there c.args.channel.now c.args.views.now.items c.in-Some.place change at

pub returns-clause-view : goal.returns-clause-view
returns-clause-view c other =
    let none : position (is_of c.args.channel.now) c.args.views.now.items ≡ None =
    sym (c.requires c.args.channel.now) ∙ sym c.place_in.ensures ∙ c.in_default.is in
    let end : length c.args.views.now.items ≡ c.len-place.result = omega (arith, c.len-place.ensures) in
    ap (λ (views : List ChannelView). get_or views c.len-place.result other)
    (c.in_ok-add.ensures.views ∙ ap (λ (v : ChannelView). c.args.views.now.items ++ v ∷ []) c.unknown.ensures)
    ∙ view_added c.args.channel.now c.args.views.now.items c.len-place.result other none end

pub returns-clause-change : goal.returns-clause-change
returns-clause-change c change =
    let none : position (is_of c.args.channel.now) c.args.views.now.items ≡ None =
    sym (c.requires c.args.channel.now) ∙ sym c.place_in.ensures ∙ c.in_default.is in
    let end : length c.args.views.now.items ≡ c.len-place.result = omega (arith, c.len-place.ensures) in
    ap (λ (views : List ChannelView). set views c.len-place.result (change (view_of c.args.views.now.items c.args.channel.now)))
    (c.in_ok-add.ensures.views ∙ ap (λ (v : ChannelView). c.args.views.now.items ++ v ∷ []) c.unknown.ensures)
    ∙ changed_added c.args.channel.now c.args.views.now.items c.len-place.result change none end
