pub mod CalendarUrl
pub mod UrlList
pub mod inner
