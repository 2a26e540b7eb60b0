use Rattle.std.proofs.Common.{vec_items, rules}
use Rattle.capture.proofs.Children.{event_count, how_many}
use Rattle.capture.proofs.store.CaptureStore.child_count.Goals as goal

pub returns-in-Capture : goal.returns-in-Capture
returns-in-Capture c = let n = how_many (vec_items c.args.self.now.events) c.args.handle c.place.result c.place.ensures in let m = event_count (vec_items c.args.self.now.events) in search rules

pub returns-in-Event : goal.returns-in-Event
returns-in-Event c = let n = how_many (vec_items c.args.self.now.events) c.args.handle c.place.result c.place.ensures in search rules

pub returns-in-Part : goal.returns-in-Part
returns-in-Part c = let n = how_many (vec_items c.args.self.now.events) c.args.handle c.place.result c.place.ensures in search rules

pub returns-in-Value : goal.returns-in-Value
returns-in-Value c = let n = how_many (vec_items c.args.self.now.events) c.args.handle c.place.result c.place.ensures in search rules

pub returns-in_default : goal.returns-in_default
returns-in_default c = let n = how_many (vec_items c.args.self.now.events) c.args.handle c.place.result c.place.ensures in search rules
